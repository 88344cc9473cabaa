-- What packets of a block say together: with k different ESIs all of it, with fewer the source symbols that were heard.
use Rattle.std.specs.Prelude.{◌≡◌, ◌↔◌, ◌∷◌, ◌≤◌, ◌<◌}
use Rattle.words.specs.Words.{refl, sym, ap, ◌∙◌, inl, inr, List, [], ℕ, zero, suc, arith, ℕ_discrete, bit_xor, xor_lt, length, get_or}
use Rattle.words.specs.Words.{ext_get_or}
use native.Mathlib.Decide.{dec_le}
use Rattle.field.specs.Powers.{power}
use Rattle.memory.specs.Number.{Bytes}
use Rattle.history.specs.Symbol.{bytes_of}
use Rattle.history.specs.History.{Filling, Satisfied, All, Consistent, Known}
use Rattle.history.proofs.Counting.{counted_once}
use Rattle.history.proofs.Says.{bytes_whole}
use Rattle.interpolation.specs.Polynomial.{value, Through}
use Rattle.interpolation.specs.Lagrange.{encoded}
use Rattle.interpolation.specs.Code.{Block, Esis, Standard}
use Rattle.interpolation.proofs.Standard.{other_byte, one_more, standard, systematic, encoded-lt, tells, meets}
use Rattle.recovery.specs.Block.{Packet, Formed, AllFormed, says, all_say, HeardAs, Heard, HeardCount, byte_at, Recovery}
use Rattle.recovery.proofs.Counts.{count, listed, listed-length, listed_small, listed_different, listed_has, listed_at, counted_most}
use Rattle.recovery.proofs.Bytewise.{encoded_same, same_symbol, satisfied, filled, filled_encoded}

-- whether an ESI was heard can be told
pub heard_dec : (ps : List Packet) (j : ℕ) → Dec (Heard ps j)
heard_dec [] j = no (λ h. h.1)
heard_dec (p ∷ ps) j = go (ℕ_discrete p.esi j) (heard_dec ps j)
  where
    go : Dec (p.esi ≡ j) → Dec (Heard ps j) → Dec (Heard (p ∷ ps) j)
    go (yes e) d = yes (p.symbol, inl (e, refl))
    go (no e) (yes (v, h)) = yes (v, inr h)
    go (no e) (no h) = no (λ (v, g). other v g)
      where
        other : (v : List ℕ) → HeardAs (p ∷ ps) j v → ⊥
        other v (inl q) = e q.0
        other v (inr q) = h (v, q)

-- and so how many were
pub counts : (ps : List Packet) → (n : ℕ) × HeardCount ps n
counts ps = count (Heard ps) (heard_dec ps) 255

pub counts_once : (ps : List Packet) (n m : ℕ) → HeardCount ps n → HeardCount ps m → n ≡ m
counts_once ps n m c d = counted_once c d

module _ (E k : ℕ) (some_bytes : 0 < E) (fits : k ≤ 255) where
  -- what a packet that was heard says, byte by byte
  heard_says : (ps : List Packet) → AllFormed E ps → (j : ℕ) (v : List ℕ) → HeardAs ps j v → (f : Filling E) → All E (all_say k ps) f
      → (b : ℕ) → b < E → encoded k (byte_at E f b) j ≡ get_or v b 0
  heard_says [] w j v h f a b l = absurd h
  heard_says (p ∷ ps) w j v (inl (e, q)) f a b l =
      ap (encoded k (byte_at E f b)) (sym e) ∙ (satisfied E k p w.0 f).0 a.0 b l ∙ ap (λ (u : List ℕ). get_or u b 0) q
  heard_says (p ∷ ps) w j v (inr h) f a b l = heard_says ps w.1 j v h f a.1 b l

  -- and a filling of which all that is true satisfies the packets
  all_satisfied : (ps : List Packet) → AllFormed E ps → (f : Filling E)
      → ((j : ℕ) (v : List ℕ) → HeardAs ps j v → (b : ℕ) → b < E → encoded k (byte_at E f b) j ≡ get_or v b 0) → All E (all_say k ps) f
  all_satisfied [] w f h = tt
  all_satisfied (p ∷ ps) w f h =
      ((satisfied E k p w.0 f).1 (h p.esi p.symbol (inl (refl, refl))), all_satisfied ps w.1 f (λ j v g. h j v (inr g)))

  heard_formed : (ps : List Packet) → AllFormed E ps → (j : ℕ) (v : List ℕ) → HeardAs ps j v → Formed E (record { esi = j; symbol = v })
  heard_formed [] w j v h = absurd h
  heard_formed (p ∷ ps) w j v (inl (e, q)) = record {
    small = rw (← e) w.0.small;
    sized = rw (← q) w.0.sized;
    bytes = rw (← q) w.0.bytes;
  }
  heard_formed (p ∷ ps) w j v (inr h) = heard_formed ps w.1 j v h

  block : (f : Filling E) (b : ℕ) → Block k (byte_at E f b)
  block f b i h = (bytes_whole E (f i)).small b

  -- a packet says that each byte of its symbol is the value of the polynomial through that byte of the source symbols
  polynomial : (p : Packet) → Formed E p → (f : Filling E)
      → Satisfied E (says k p) f ↔ ((b : ℕ) → b < E → (q : List ℕ) → Through k (byte_at E f b) q → value q (power p.esi) ≡ get_or p.symbol b 0)
  polynomial p w f =
      let s : (b : ℕ) → Standard k (byte_at E f b) = λ b. standard k fits (byte_at E f b) (block f b) in (
        (λ h b l q t. ap (λ (r : List ℕ). value r (power p.esi)) ((s b).only q t) ∙ sym ((s b).symbols p.esi) ∙ (satisfied E k p w f).0 h b l),
        (λ h. (satisfied E k p w f).1 (λ b l. (s b).symbols p.esi ∙ h b l (s b).polynomial (s b).through)),
      )

  sources : (p : Packet) → Formed E p → p.esi < k → (f : Filling E) → Satisfied E (says k p) f ↔ (bytes_of E (f p.esi) ≡ p.symbol)
  sources p w l f =
      let here : (b : ℕ) → encoded k (byte_at E f b) p.esi ≡ get_or (bytes_of E (f p.esi)) b 0 =
      λ b. systematic k fits (byte_at E f b) (block f b) p.esi l in
      let size : length (bytes_of E (f p.esi)) ≡ E = (bytes_whole E (f p.esi)).sized in (
        (λ s. ext_get_or 0 _ p.symbol (size ∙ sym w.sized) (λ b h. sym (here b) ∙ (satisfied E k p w f).0 s b (omega arith))),
        (λ e. (satisfied E k p w f).1 (λ b h. here b ∙ ap (λ (v : List ℕ). get_or v b 0) e)),
      )

  -- what was heard is known
  pub heard_known : (ps : List Packet) → AllFormed E ps → (i : ℕ) → i < k → Heard ps i → Known E (all_say k ps) i
  heard_known ps w i l (v, h) f g a c =
      same_symbol E (f i) (g i)
      (λ b m. sym (systematic k fits (byte_at E f b) (block f b) i l) ∙ heard_says ps w i v h f a b m
      ∙ sym (heard_says ps w i v h g c b m) ∙ systematic k fits (byte_at E g b) (block g b) i l)

  module _ (ps : List Packet) (w : AllFormed E ps) (n : ℕ) (count : HeardCount ps n) where
    js : List ℕ
    js = listed count

    size : length js ≡ n
    unfolding js
    size = listed-length count

    esis : Esis js
    unfolding js
    esis = record { small = listed_small count; different = listed_different count }

    -- a filling that has the symbols of another at the ESIs that were heard satisfies what that satisfies
    carried : (f g : Filling E) → All E (all_say k ps) f
        → ((b : ℕ) → b < E → (l : ℕ) → l < length js → encoded k (byte_at E f b) (get_or js l 0) ≡ encoded k (byte_at E g b) (get_or js l 0)) → All E (all_say k ps) g
    unfolding js
    carried f g a e =
        all_satisfied ps w g
        (λ j v h b m.
        let (l, s, q) = listed_at count j (heard_formed ps w j v h).small (v, h) in
        sym (sym (heard_says ps w j v h f a b m) ∙ ap (encoded k (byte_at E f b)) (sym q) ∙ e b m l s ∙ ap (encoded k (byte_at E g b)) q))

    whole : k ≤ n → (i : ℕ) → i < k → Known E (all_say k ps) i
    unfolding js
    whole h i l f g a c =
        same_symbol E (f i) (g i)
        (λ b m. tells k fits js esis (omega (arith, size)) (byte_at E f b) (byte_at E g b) (block f b) (block g b)
        (λ e s. let (v, heard) = listed_has count e s in
        heard_says ps w (get_or js e 0) v heard f a b m ∙ sym (heard_says ps w (get_or js e 0) v heard g c b m)) i l)

    -- fewer than k: a packet with another ESI is met by some filling that has the symbols of a given one
    met : n < k → (f : Filling E) → (j : ℕ) → j < 255 → ¬ Heard ps j → (v : List ℕ) → Bytes v
        → (g : Filling E)
        × ((b : ℕ) → b < E → encoded k (byte_at E g b) j ≡ get_or v b 0)
        × ((b : ℕ) → b < E → (l : ℕ) → l < length js → encoded k (byte_at E f b) (get_or js l 0) ≡ encoded k (byte_at E g b) (get_or js l 0))
    unfolding js
    met h f j l other v small =
        let found : (b : ℕ)
        → (s : ℕ → ℕ) × Block k s × ((m : ℕ) → m < suc (length js) → encoded k s (get_or (j ∷ js) m 0) ≡ at b m) =
        λ b. meets k fits (j ∷ js) (one_more k fits js esis j l (λ m s q. other (rw q at (listed_has count m s)))) (omega (arith, size)) (at b) (bytes b) in
        let t : ℕ → ℕ → ℕ = λ b. (found b).0 in
        let there = filled_encoded E k t (λ b. (found b).1) in (
          filled E k t,
          (λ b m. there b m j ∙ (found b).2 0 (omega arith)),
          (λ b m e s. sym (there b m (get_or js e 0) ∙ (found b).2 (suc e) (omega arith))),
        )
      where
        at : (b : ℕ) → ℕ → ℕ
        at b zero = get_or v b 0
        at b (suc m) = encoded k (byte_at E f b) (get_or js m 0)

        bytes : (b : ℕ) → Block (suc (length js)) (at b)
        bytes b zero s = small b
        bytes b (suc m) s = encoded-lt k fits (byte_at E f b) (block f b) (get_or js m 0)

    fresh : Consistent E (all_say k ps) → n < k → (p : Packet) → Formed E p → ¬ Heard ps p.esi → Consistent E (says k p ∷ all_say k ps)
    fresh (f, a) h p q other =
        let (g, here, there) = met h f p.esi q.small other p.symbol q.bytes in
        (g, ((satisfied E k p q g).1 here, carried f g a there))

    part : Consistent E (all_say k ps) → n < k → (i : ℕ) → i < k → Known E (all_say k ps) i ↔ Heard ps i
    part (f, a) h i l = ((λ known. go known (heard_dec ps i)), heard_known ps w i l)
      where
        -- another byte at i
        another : List ℕ
        another = bit_xor (byte_at E f 0 i) 1 ∷ []

        small : Bytes another
        small zero = xor_lt 8 (byte_at E f 0 i) 1 (block f 0 i l) (omega arith)
        small (suc b) = omega arith

        go : Known E (all_say k ps) i → Dec (Heard ps i) → Heard ps i
        go known (yes e) = e
        go known (no e) =
            let (g, here, there) = met h f i (omega arith) e another small in
            let same : f i ≡ g i = known f g a (carried f g a there) in
            absurd (other_byte (byte_at E f 0 i) (ap (λ u. get_or (bytes_of E u) 0 0) same ∙ sym (systematic k fits (byte_at E g 0) (block g 0) i l) ∙ here 0 some_bytes))

    exactly : Consistent E (all_say k ps) → ((i : ℕ) → i < k → Known E (all_say k ps) i) ↔ (k ≤ n)
    exactly c = ((λ known. go known (dec_le k n)), whole)
      where
        go : ((i : ℕ) → i < k → Known E (all_say k ps) i) → Dec (k ≤ n) → k ≤ n
        go known (yes h) = h
        go known (no h) = counted_most count k fits (λ i l. (part c (omega arith) i l).0 (known i l))

    again : Consistent E (all_say k ps) → (p : Packet) → Formed E p → (v : List ℕ) → HeardAs ps p.esi v
        → Consistent E (says k p ∷ all_say k ps) ↔ (p.symbol ≡ v)
    again (f, a) p q v h = (
      (λ (g, (s, c)).
          ext_get_or 0 p.symbol v (q.sized ∙ sym (heard_formed ps w p.esi v h).sized)
          (λ b m. let l : b < E = omega (arith, q.sized) in
          sym ((satisfied E k p q g).0 s b l) ∙ heard_says ps w p.esi v h g c b l)),
      (λ e. (f, ((satisfied E k p q f).1 (λ b l. heard_says ps w p.esi v h f a b l ∙ ap (λ (u : List ℕ). get_or u b 0) (sym e)), a))),
    )

    settled : k ≤ n → (f : Filling E) → All E (all_say k ps) f → (p : Packet) → Formed E p
        → Consistent E (says k p ∷ all_say k ps) ↔ Satisfied E (says k p) f
    settled h f a p q = (
      (λ (g, (s, c)).
          (satisfied E k p q f).1
          (λ b l. encoded_same k (byte_at E f b) (byte_at E g b) p.esi (λ i m. ap (λ u. get_or (bytes_of E u) b 0) (whole h i m f g a c))
          ∙ (satisfied E k p q g).0 s b l)),
      (λ s. (f, (s, a))),
    )

pub recovery : (E k : ℕ) → 0 < E → k ≤ 255 → Recovery E k
recovery E k e h = record {
  polynomial = polynomial E k e h;
  sources = sources E k e h;
  counts = counts;
  recovered = λ ps w n c s. record {
    whole = whole E k e h ps w n c;
    part = part E k e h ps w n c s;
    exactly = exactly E k e h ps w n c s;
    fresh = fresh E k e h ps w n c s;
    again = again E k e h ps w n c s;
    settled = settled E k e h ps w n c;
  };
}
