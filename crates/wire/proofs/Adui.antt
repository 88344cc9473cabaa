-- The ADUI: its length, and its symbols, each a stretch of the ADU or, the first, what stands before it and the ADU's first bytes.
-- padding: take-zeros, take-padded, length-padded, counted, copied
-- the ADUI: room, least, length-adui; its symbols: before_end, symbol_start_lem, symbol_first, symbol_later
-- stores: first-stored, all_stored, stored-length; a symbol written: first-written, later_written
-- stretches: length-chunks, get_or-chunks, chunks_sized; the symbols of an ADU: symbols_count, symbol_at_lem, symbol_length, symbols_sized
-- a packet at the front of the output: front_next
use Rattle.std.specs.Prelude.{◌≡◌, ◌≤◌, ◌+◌, ◌<◌, ◌-◌, ◌∷◌, ◌*◌, ◌++◌}
use Rattle.words.specs.Words.{arith, ℕ, List, length, refl, ◌∙◌, sym, ap, [], suc, true, zero, get_or, false, Bool, drop}
use Rattle.words.specs.Words.{take, leb, length-append, not-suc-le-zero, zero-add, le_of_suc-le-suc, zero-mul, set, length-drop, leb-true, length-set}
use Rattle.words.specs.Words.{append-nil, length-take, suc-mul, min, take_all, length-replicate, drop-drop, drop-length}
use Rattle.std.proofs.Common.{le_of_eq, div-mul-le_self, leb-false}
use native.Mathlib.Nat.{lt-div-mul-add}
use lib.Seq.{take-nil, take-length, drop-append-le}
use Rattle.memory.specs.Part.{part, splice}
use Rattle.memory.specs.Number.{bytes}
use Rattle.memory.proofs.Parts.{length_part, length-splice, splice_next, row_fits}
use Rattle.wire.specs.Packets.{zeros, chunks, Sized, symbol_count, adui, source_symbols, symbol_at}
use Rattle.wire.specs.Inner.{padded}

-- the padding of a stretch that ends in the zeros after l
take-zeros : (n p : ℕ) → n ≤ p → take n (zeros p) ≡ zeros n
take-zeros zero p h = refl
take-zeros (suc n) zero h = absurd (not-suc-le-zero h)
take-zeros (suc n) (suc p) h = ap (λ (l : List ℕ). 0 ∷ l) (take-zeros n p (le_of_suc-le-suc h))

take-padded : (n p : ℕ) (l : List ℕ) → n ≤ length l + p → take n (l ++ zeros p) ≡ padded n l
unfolding padded
take-padded n p [] h = let e : n - 0 ≡ n = omega arith in rw (e, take-nil n) (take-zeros n p (omega arith))
take-padded zero p (x ∷ l) h = let e : 0 - suc (length l) ≡ 0 = omega arith in rw e
take-padded (suc n) p (x ∷ l) h =
    let e : suc n - suc (length l) ≡ n - length l = omega arith in
    rw e (ap (λ (k : List ℕ). x ∷ k) (take-padded n p l (omega arith)))

length-padded : (n : ℕ) (l : List ℕ) → length (padded n l) ≡ n
unfolding padded
length-padded n l = simp (length-append, length-take, length-replicate) (omega arith)

-- as the code counts: n bytes of l, then zeros
counted : (room n : ℕ) (l : List ℕ) → n ≡ min (length l) room → take n l ++ zeros (room - n) ≡ padded room l
unfolding padded
counted room n l e = go (leb (length l) room) refl
  where
    go : (b : Bool) → leb (length l) room ≡ b → take n l ++ zeros (room - n) ≡ take room l ++ zeros (room - length l)
    go true f =
        let h = leb-true (length l) room f in
        let g : n ≡ length l = omega arith in
        rw (g, take-length l, take_all room l h)
    go false f =
        let h = leb-false (length l) room f in
        let g : n ≡ room = omega arith in
        let z : room - room ≡ 0 = omega arith in
        let y : room - length l ≡ 0 = omega arith in
        rw (g, z, y)

-- a copy, then zeros
pub copied : (at from n : ℕ) (dst adu : List ℕ) → at ≤ length dst → from ≤ length adu → n ≡ min (length adu - from) (length dst - at)
    → splice (at + n) (zeros (length dst - at - n)) (splice at (part from n adu) dst) ≡ splice at (padded (length dst - at) (drop from adu)) dst
unfolding part
copied at from n dst adu h k e =
    let l : length (part from n adu) ≡ n = length_part from n adu (omega arith) in
    let g : n ≡ min (length (drop from adu)) (length dst - at) = simp length-drop e in
    let c = counted (length dst - at) n (drop from adu) g in
    (ap (λ (m : ℕ). splice (at + m) (zeros (length dst - at - n)) (splice at (part from n adu) dst)) (sym l) ∙ splice_next at (part from n adu) _ dst h)
    ∙ ap (λ (x : List ℕ). splice at x dst) c

-- the last symbol is the first that reaches past the ADU
pub room : (E L : ℕ) → 0 < E → 3 + L ≤ symbol_count E L * E
unfolding symbol_count
room E L h = omega (arith, lt-div-mul-add {a = 3 + L + (E - 1)} {b = E} h)

-- and the padding is shorter than a symbol
pub least : (E L : ℕ) → symbol_count E L * E ≤ 3 + L + (E - 1)
unfolding symbol_count
least E L = div-mul-le_self (3 + L + (E - 1)) E

module _ (flow : ℕ) (adu : List ℕ) (E : ℕ) where
  pub length-adui : 0 < E → length (adui flow adu E) ≡ symbol_count E (length adu) * E
  unfolding adui
  length-adui h = simp (length-append, length-replicate) (omega (arith, room E (length adu) h))

  -- symbol i lies before the end
  before_end : 0 < E → (i : ℕ) → i < symbol_count E (length adu) → i * E + E ≤ length (adui flow adu E)
  before_end z i h = rw (length-adui z) (row_fits (symbol_count E (length adu)) E i h)

  -- and starts in the ADU or before it
  pub symbol_start_lem : 0 < E → (i : ℕ) → i < symbol_count E (length adu) → i * E < 3 + length adu
  symbol_start_lem z i h = omega (arith, row_fits (symbol_count E (length adu)) E i h, least E (length adu))

  -- the first symbol: flow, length, and the ADU's first bytes
  pub symbol_first : 3 ≤ E → 0 < symbol_count E (length adu) → symbol_at flow adu E 0 ≡ flow ∷ bytes 2 (length adu) ++ padded (E - 3) adu
  unfolding adui part
  symbol_first z h =
      let e : E ≡ suc (suc (suc (E - 3))) = omega arith in
      let r = row_fits (symbol_count E (length adu)) E 0 h in
      let p = take-padded (E - 3) (symbol_count E (length adu) * E - (3 + length adu)) adu (omega (arith, room E (length adu) (omega arith))) in
      rw zero-mul (ap (λ (n : ℕ). take n (adui flow adu E)) e ∙ ap (λ (l : List ℕ). flow ∷ bytes 2 (length adu) ++ l) p)

  -- a later one: the ADU's bytes from there on
  pub symbol_later : 3 ≤ E → (i : ℕ) → 0 < i → i < symbol_count E (length adu) → symbol_at flow adu E i ≡ padded E (drop (i * E - 3) adu)
  unfolding adui part
  symbol_later z i n h =
      let g : E ≤ i * E = omega (arith, row_fits i E 0 n) in
      let e : i * E ≡ suc (suc (suc (i * E - 3))) = omega arith in
      let s : i * E - 3 ≤ length adu = omega (arith, symbol_start_lem (omega arith) i h) in
      let p = take-padded E (symbol_count E (length adu) * E - (3 + length adu)) (drop (i * E - 3) adu)
      (simp length-drop (omega (arith, row_fits (symbol_count E (length adu)) E i h, room E (length adu) (omega arith)))) in
      ap (λ (k : ℕ). take E (drop k (adui flow adu E))) e ∙ rw (drop-append-le (i * E - 3) adu) p

-- the stores that write the first symbol, and those that write a later one
first-stored : (dst : List ℕ) (flow n : ℕ) (x : List ℕ) → length dst ≡ 3 + length x → splice 3 x (splice 1 (bytes 2 n) (set dst 0 flow)) ≡ flow ∷ bytes 2 n ++ x
unfolding splice
first-stored [] flow n x e = absurd (omega arith)
first-stored (y ∷ dst) flow n x e =
    let g : length dst ≡ 2 + length x = omega arith in
    rw (drop-drop (length x) 2 dst, ← g, drop-length dst, append-nil x)

all_stored : (dst x : List ℕ) → length dst ≡ length x → splice 0 x dst ≡ x
unfolding splice
all_stored dst x e = rw (← e, drop-length dst, append-nil x)

pub stored-length : (dst : List ℕ) (flow n : ℕ) (m : List ℕ) → 4 ≤ length dst → m ≡ splice 1 (bytes 2 n) (set dst 0 flow) → length m ≡ length dst
stored-length dst flow n m h e = ap length e ∙ length-splice 1 (bytes 2 n) (set dst 0 flow) (simp length-set (omega arith)) ∙ simp length-set

module _ (dst adu : List ℕ) (flow i : ℕ) (z : 4 ≤ length dst) (h : i < symbol_count (length dst) (length adu)) where
  pub first-written : (m r : List ℕ) → i ≡ 0 → m ≡ splice 1 (bytes 2 (length adu)) (set dst 0 flow) → r ≡ splice 3 (padded (length m - 3) (drop 0 adu)) m
      → r ≡ symbol_at flow adu (length dst) i
  first-written m r e em er =
      let n = stored-length dst flow (length adu) m z em in
      let p : length (padded (length dst - 3) adu) ≡ length dst - 3 = length-padded (length dst - 3) adu in
      let s = symbol_first flow adu (length dst) (omega arith) (rw e at h) in
      er ∙ rw (n, em, e) (first-stored dst flow (length adu) (padded (length dst - 3) adu) (omega arith) ∙ sym s)

  pub later_written : (r : List ℕ) → (i ≡ 0 → ⊥) → r ≡ splice 0 (padded (length dst - 0) (drop (i * length dst - 3) adu)) dst
      → r ≡ symbol_at flow adu (length dst) i
  later_written r n er =
      let e : length dst - 0 ≡ length dst = omega arith in
      let x = padded (length dst) (drop (i * length dst - 3) adu) in
      er ∙ rw e (all_stored dst x (sym (length-padded (length dst) _)) ∙ sym (symbol_later flow adu (length dst) (omega arith) i (omega arith) h))

-- ---- stretches

pub length-chunks : (n s : ℕ) (m : List ℕ) → length (chunks n s m) ≡ n
length-chunks zero s m = refl
length-chunks (suc n) s m = ap suc (length-chunks n s (drop s m))

pub get_or-chunks : (n s : ℕ) (m : List ℕ) (i : ℕ) → i < n → get_or (chunks n s m) i [] ≡ part (i * s) s m
unfolding part
get_or-chunks zero s m i h = absurd (not-suc-le-zero h)
get_or-chunks (suc n) s m zero h = rw zero-mul
get_or-chunks (suc n) s m (suc i) h =
    let e : suc i * s ≡ s + i * s = omega (arith, suc-mul i s) in
    rw e (get_or-chunks n s (drop s m) i (le_of_suc-le-suc h) ∙ rw drop-drop)

chunks_sized : (n s : ℕ) (m : List ℕ) → n * s ≤ length m → Sized s (chunks n s m)
chunks_sized zero s m h = tt
chunks_sized (suc n) s m h =
    let e = suc-mul n s in
    (simp length-take (omega arith), chunks_sized n s (drop s m) (simp length-drop (omega arith)))

-- ---- the symbols of an ADU

module _ (flow : ℕ) (adu : List ℕ) (E : ℕ) where
  pub symbols_count : length (source_symbols flow adu E) ≡ symbol_count E (length adu)
  unfolding source_symbols
  symbols_count = length-chunks _ E _

  pub symbol_at_lem : (i : ℕ) → i < symbol_count E (length adu) → get_or (source_symbols flow adu E) i [] ≡ symbol_at flow adu E i
  unfolding source_symbols
  symbol_at_lem i h = get_or-chunks _ E _ i h

  pub symbol_length : 0 < E → (i : ℕ) → i < symbol_count E (length adu) → length (get_or (source_symbols flow adu E) i []) ≡ E
  symbol_length z i h = rw (symbol_at_lem i h) (length_part (i * E) E (adui flow adu E) (before_end flow adu E z i h))

  pub symbols_sized : 0 < E → Sized E (source_symbols flow adu E)
  unfolding source_symbols
  symbols_sized z = chunks_sized (symbol_count E (length adu)) E (adui flow adu E) (le_of_eq (sym (length-adui flow adu E z)))

-- ---- a packet written at the front of the output, piece by piece

pub front_next : (n : ℕ) (x y m : List ℕ) → length x ≡ n → splice n y (splice 0 x m) ≡ splice 0 (x ++ y) m
front_next n x y m e = rw (← e, ← zero-add (length x)) (splice_next 0 x y m (omega arith))
