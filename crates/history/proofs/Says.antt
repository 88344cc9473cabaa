-- A packet's rows say what the packet says: positions hold its symbols, or repair symbols equal their combinations.
-- Index
--   Whole: e bytes
--   Wholes, bytes_symbol, symbol_tail, symbol_bytes, bytes_sized, bytes_whole, length_at, get_d_at
--   AllBytes: symbols have E bytes
--   Formed, head, rest, holds, says
use Rattle.std.specs.Prelude.{◌≡◌, ◌+◌, ◌<◌, ◌∷◌, ◌↔◌}
use Rattle.words.specs.Words.{arith, ℕ, List, length, refl, ◌∙◌, sym, ap, [], suc, zero, get_or, ap₂, add-zero, map, dec_lt, bit_xor}
use Rattle.words.specs.Words.{mod-eq_of_lt, zero-add, lit<, add-suc, take_all, suc-add, xor_lt, xor_comm}
use mathlib.Core.Logic.Iff
use lib.ListN.{get_or-eq_default}
use Rattle.field.specs.Gf256.{product}
use Rattle.field.proofs.Laws.{product_lt}
use Rattle.field.proofs.Xor.{xor_assoc}
use Rattle.memory.specs.Number.{Bytes}
use Rattle.rows.specs.Combination.{dot, coefficient, combination}
use Rattle.rows.proofs.Dot.{dot_same}
use Rattle.rows.proofs.Combinations.{length-combination, get_or-combination}
use Rattle.decoder.specs.Bytes.{byte, byte_path, bytes, Coded}
use Rattle.decoder.specs.Symbols.{nulls, adds, times}
use Rattle.decoder.specs.Stretch.{symbol_cut_at}
use Rattle.decoder.proofs.Bytes.{byte_of, laws}
use Rattle.decoder.proofs.Stretch.{bytes-of_symbol}
use Rattle.decoder.proofs.History.{shift_at}
use Rattle.decoder.proofs.Packets.{source_satisfies, repair_satisfies}
use Rattle.history.specs.Symbol.{Symbol, bytes_of, symbol_of}
use Rattle.history.specs.History.{Filling, Located, source, repair, symbols_at, Satisfied}
use Rattle.history.specs.Model.{equations, packet_of}
use Rattle.decoder.specs.Receiver as decoder
use Rattle.decoder.specs.Packets as packets

-- ---- A symbol and its bytes

-- E bytes.
pub record Whole (E : ℕ) (v : List ℕ) : Type 0 where
  pub sized : length v ≡ E
  pub small : Bytes v

abbrev pub Wholes : ℕ → List (List ℕ) → Type 0
Wholes E [] = Unit {0}
Wholes E (v ∷ vs) = Whole E v × Wholes E vs

pub bytes_symbol : (E : ℕ) (v : List ℕ) → Whole E v → bytes_of E (symbol_of E v) ≡ v
bytes_symbol E v w = bytes-of_symbol E 0 v w.small (omega (arith, w.sized)) ∙ take_all E v (omega (arith, w.sized))

pub symbol_tail : (n o x : ℕ) (l : List ℕ) → symbol_cut_at n (suc o) (x ∷ l) ≡ symbol_cut_at n o l
symbol_tail zero o x l = refl
symbol_tail (suc n) o x l = ap (λ v. (byte (get_or l o 0), v)) (symbol_tail n (suc o) x l)

pub symbol_bytes : (E : ℕ) (u : Symbol E) → symbol_of E (bytes_of E u) ≡ u
symbol_bytes zero u = refl
symbol_bytes (suc E) u = ap₂ (λ a v. (a, v)) (byte_of u.0) (symbol_tail E 0 u.0.0 (bytes_of E u.1) ∙ symbol_bytes E u.1)

bytes_small : (E : ℕ) (u : Symbol E) → Bytes (bytes_of E u)
bytes_small zero u i = lit< tt
bytes_small (suc E) u zero = u.0.1
bytes_small (suc E) u (suc i) = bytes_small E u.1 i

pub bytes_sized : (E : ℕ) (u : Symbol E) → length (bytes_of E u) ≡ E
bytes_sized zero u = refl
bytes_sized (suc E) u = ap suc (bytes_sized E u.1)

pub bytes_whole : (E : ℕ) (u : Symbol E) → Whole E (bytes_of E u)
bytes_whole E u = record { sized = bytes_sized E u; small = bytes_small E u }

-- ---- A combination, byte by byte

-- The symbol whose bytes are these.
abbrev tuple : (n : ℕ) → (ℕ → ℕ) → Symbol n
tuple zero g = tt
tuple (suc n) g = (byte (g 0), tuple n (λ i. g (suc i)))

symbol_tuple : (n o : ℕ) (s : List ℕ) (g : ℕ → ℕ) → ((i : ℕ) → i < n → get_or s (o + i) 0 ≡ g i) → symbol_cut_at n o s ≡ tuple n g
symbol_tuple zero o s g h = refl
symbol_tuple (suc n) o s g h =
    ap₂ (λ a v. (a, v)) (ap byte (ap (λ k. get_or s k 0) (sym (add-zero o)) ∙ h 0 (omega arith)))
    (symbol_tuple n (suc o) s (λ i. g (suc i)) (λ i l. ap (λ k. get_or s k 0) (suc-add o i ∙ sym (add-suc o i)) ∙ h (suc i) (omega arith)))

spelled : (E : ℕ) (s : List ℕ) (g : ℕ → ℕ) → ((i : ℕ) → i < E → get_or s i 0 ≡ g i) → symbol_of E s ≡ tuple E g
spelled E s g h = symbol_tuple E 0 s g (λ i l. ap (λ k. get_or s k 0) (zero-add i) ∙ h i l)

null_tuple : (n : ℕ) → nulls bytes n ≡ tuple n (λ i. 0)
null_tuple zero = refl
null_tuple (suc n) = ap₂ (λ a v. (a, v)) (byte_path refl) (null_tuple n)

-- A coefficient times a symbol, and another symbol.
add_tuple : (n k : ℕ) (a b c : ℕ → ℕ) → k < 256 → ((i : ℕ) → a i < 256) → ((i : ℕ) → b i < 256)
    → ((i : ℕ) → i < n → bit_xor (product k (a i)) (b i) ≡ c i)
    → adds bytes n (times bytes n (byte k) (tuple n a)) (tuple n b) ≡ tuple n c
add_tuple zero k a b c x y z h = refl
add_tuple (suc n) k a b c x y z h =
    ap₂ (λ u v. (u, v))
    (byte_path (simp (mod-eq_of_lt x, mod-eq_of_lt (y 0), mod-eq_of_lt (z 0), mod-eq_of_lt (product_lt k (a 0))))
    ∙ ap byte (h 0 (omega arith)))
    (add_tuple n k (λ i. a (suc i)) (λ i. b (suc i)) (λ i. c (suc i)) x (λ i. y (suc i)) (λ i. z (suc i)) (λ i l. h (suc i) (omega arith)))

dot-lt : (c x : ℕ → ℕ) (n : ℕ) → dot c x n < 256
dot-lt c x zero = lit< tt
dot-lt c x (suc n) = xor_lt 8 (dot c x n) (product (c n) (x n)) (dot-lt c x n) (product_lt (c n) (x n))

-- A sum, its first term apart.
dot_front : (c x : ℕ → ℕ) (n : ℕ) → bit_xor (product (c 0) (x 0)) (dot (λ k. c (suc k)) (λ k. x (suc k)) n) ≡ dot c x (suc n)
dot_front c x zero = xor_comm (product (c 0) (x 0)) 0
dot_front c x (suc n) =
    sym (xor_assoc (product (c 0) (x 0)) (dot (λ k. c (suc k)) (λ k. x (suc k)) n) (product (c (suc n)) (x (suc n))))
    ∙ ap (λ (s : ℕ). bit_xor s (product (c (suc n)) (x (suc n)))) (dot_front c x n)

combine_tuple : (E n : ℕ) (c : ℕ → ℕ) (x : ℕ → Symbol E) → ((k : ℕ) → c k < 256)
    → packets.combine (Coded E) n (λ k. byte (c k)) x ≡ tuple E (λ i. dot c (λ k. get_or (bytes_of E (x k)) i 0) n)
unfolding packets.combine
combine_tuple E zero c x h = null_tuple E
combine_tuple E (suc n) c x h =
    let b : ℕ → ℕ = λ i. dot (λ k. c (suc k)) (λ k. get_or (bytes_of E (x (suc k))) i 0) n in
    ap₂ (λ u v. adds bytes E (times bytes E (byte (c 0)) u) v)
    (sym (symbol_bytes E (x 0)) ∙ spelled E (bytes_of E (x 0)) (λ i. get_or (bytes_of E (x 0)) i 0) (λ i l. refl))
    (combine_tuple E n (λ k. c (suc k)) (λ k. x (suc k)) (λ k. h (suc k)))
    ∙ add_tuple E (c 0) (λ i. get_or (bytes_of E (x 0)) i 0) b (λ i. dot c (λ k. get_or (bytes_of E (x k)) i 0) (suc n)) (h 0) (bytes_small E (x 0))
    (λ i. dot-lt (λ k. c (suc k)) (λ k. get_or (bytes_of E (x (suc k))) i 0) n)
    (λ i l. dot_front c (λ k. get_or (bytes_of E (x k)) i 0) n)

-- ---- The symbols at some positions

module _ (E : ℕ) (f : Filling E) where
  pub length_at : (p n : ℕ) → length (symbols_at E f p n) ≡ n
  length_at p zero = refl
  length_at p (suc n) = ap suc (length_at (suc p) n)

  pub get_d_at : (p n k : ℕ) → k < n → get_or (symbols_at E f p n) k [] ≡ bytes_of E (f (p + k))
  get_d_at p zero k h = absurd (omega arith)
  get_d_at p (suc n) zero h = ap (λ q. bytes_of E (f q)) (sym (add-zero p))
  get_d_at p (suc n) (suc k) h = get_d_at (suc p) n k (omega arith) ∙ ap (λ q. bytes_of E (f q)) (suc-add p k ∙ sym (add-suc p k))

  -- The decoder's combination of the symbols from p on is the combination of their bytes.
  combination-is : (p n : ℕ) (c : List ℕ) → Bytes c
      → packets.combine (Coded E) n (λ k. byte (get_or c k 0)) (decoder.shift p f) ≡ symbol_of E (combination E c (symbols_at E f p n))
  combination-is p n c h =
      combine_tuple E n (coefficient c) (decoder.shift p f) h
      ∙ sym (spelled E (combination E c (symbols_at E f p n)) _
      (λ i l.
      get_or-combination E c (symbols_at E f p n) i l ∙ ap (dot (coefficient c) (λ k. get_or (get_or (symbols_at E f p n) k []) i 0)) (length_at p n)
      ∙ dot_same (coefficient c) _ (coefficient c) _ n (λ k m. refl)
      (λ k m. ap (λ (v : List ℕ). get_or v i 0) (get_d_at p n k m ∙ ap (bytes_of E) (sym (shift_at p k f))))))

combination-whole : (E : ℕ) (c : List ℕ) (xs : List (List ℕ)) → Whole E (combination E c xs)
combination-whole E c xs = record { sized = length-combination E c xs; small = λ i. go i (dec_lt i E) }
  where
    go : (i : ℕ) → Dec (i < E) → get_or (combination E c xs) i 0 < 256
    go i (yes h) = rw (get_or-combination E c xs i h) (dot-lt (coefficient c) _ (length xs))
    go i (no h) = rw (get_or-eq_default (combination E c xs) 0 {n = i} (omega (arith, length-combination E c xs))) (lit< tt)

-- ---- Packets

-- Symbols have E bytes; so has a repair packet's every list of coefficients bytes, and there is one for each symbol.
abbrev pub AllBytes : List (List ℕ) → Type 0
AllBytes [] = Unit {0}
AllBytes (c ∷ cs) = Bytes c × AllBytes cs

abbrev pub Formed : ℕ → Located → Type 0
Formed E (source p symbols) = Wholes E symbols
Formed E (repair p n coefficients symbols) = Wholes E symbols × AllBytes coefficients × (length coefficients ≡ length symbols)

abbrev pub head : List (List ℕ) → List ℕ
head [] = []
head (v ∷ vs) = v

abbrev pub rest : List (List ℕ) → List (List ℕ)
rest [] = []
rest (v ∷ vs) = vs

module _ (E : ℕ) where
  same_bytes : (u : Symbol E) (v : List ℕ) → Whole E v → (u ≡ symbol_of E v) ↔ (bytes_of E u ≡ v)
  same_bytes u v w = ((λ e. ap (bytes_of E) e ∙ bytes_symbol E v w), (λ e. sym (symbol_bytes E u) ∙ ap (symbol_of E) e))

  pub holds : (f : Filling E) (vs : List (List ℕ)) → Wholes E vs → (p : ℕ)
      → ((i : ℕ) → i < length vs → f (p + i) ≡ symbol_of E (get_or vs i [])) ↔ (symbols_at E f p (length vs) ≡ vs)
  holds f [] w p = ((λ _. refl), (λ _ i h. absurd (omega arith)))
  holds f (v ∷ vs) w p =
      let ih = holds f vs w.1 (suc p) in
      let here = same_bytes (f p) v w.0 in (
        (λ a.
            ap₂ (λ (x : List ℕ) (l : List (List ℕ)). x ∷ l) (here.0 (ap f (sym (add-zero p)) ∙ a 0 (omega arith)))
            (ih.0 (λ i h. ap f (suc-add p i ∙ sym (add-suc p i)) ∙ a (suc i) (omega arith)))),
        (λ e i h. go (here.1 (ap head e)) (ih.1 (ap rest e)) i h),
      )
    where
      go : f p ≡ symbol_of E v → ((i : ℕ) → i < length vs → f (suc p + i) ≡ symbol_of E (get_or vs i []))
          → (i : ℕ) → i < suc (length vs) → f (p + i) ≡ symbol_of E (get_or (v ∷ vs) i [])
      go a b zero h = ap f (add-zero p) ∙ a
      go a b (suc i) h = ap f (add-suc p i ∙ sym (suc-add p i)) ∙ b i (omega arith)

  combines : (f : Filling E) (p n : ℕ) (cs vs : List (List ℕ)) → Wholes E vs → AllBytes cs → length cs ≡ length vs
      → packets.Combined (Coded E) n (equations E cs vs) (decoder.shift p f) ↔ (map (λ (c : List ℕ). combination E c (symbols_at E f p n)) cs ≡ vs)
  combines f p n [] [] w s l = ((λ _. refl), (λ _. tt))
  combines f p n [] (v ∷ vs) w s l = absurd (omega arith)
  combines f p n (c ∷ cs) [] w s l = absurd (omega arith)
  combines f p n (c ∷ cs) (v ∷ vs) w s l =
      let ih = combines f p n cs vs w.1 s.1 (omega arith) in
      let x = combination E c (symbols_at E f p n) in
      let k = combination-is E f p n c s.0 in
      let b = bytes_symbol E x (combination-whole E c (symbols_at E f p n)) in (
        (λ a.
            ap₂ (λ (y : List ℕ) (z : List (List ℕ)). y ∷ z)
            (sym b ∙ ap (bytes_of E) (sym k ∙ a.0) ∙ bytes_symbol E v w.0) (ih.0 a.1)),
        (λ e. (k ∙ ap (symbol_of E) (ap head e), ih.1 (ap rest e))),
      )

  pub says : 0 < E → (q : Located) → Formed E q → (f : Filling E) → decoder.Satisfies (Coded E) (packet_of E q) f ↔ Satisfied E q f
  says e (source p symbols) w f =
      Iff.trans (source_satisfies (laws E e) p (length symbols) (λ i. symbol_of E (get_or symbols i [])) f) (holds f symbols w p)
  says e (repair p n coefficients symbols) w f =
      Iff.trans (repair_satisfies (laws E e) p n (equations E coefficients symbols) f)
      (combines f p n coefficients symbols w.0 w.1 w.2)
