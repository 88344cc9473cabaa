-- Laws of lists of coefficients: their lengths, that GF(2) never refuses and has zeros and ones only, that all are bytes, how many draws they take.
-- Index
--   extend_ok, extend-refused, list_more, refused_stays
--   list_length: a list that was not refused has as many coefficients as were asked
--   ones: at the density threshold 15 GF(2) has all ones, for any key
--   length-keys
--   key_at: key i is i after the first, modulo 65,536
--   Below: every element is below b
--   bits: every coefficient of GF(2) is 0 or 1
--   list_bytes: every coefficient is a byte
--   bits_ok: GF(2) never meets refusal 10
--   bits_all_ok
--   coefficient_draws_most: one coefficient takes at most 17
--   list_draws_most, packet_draws_most
--   written_draws: a packet takes the draws of the lists that its symbols were made with
use Rattle.std.specs.Prelude.{◌≡◌, ◌≤◌, ◌+◌, ◌<◌, ◌%◌, ◌∷◌, ◌*◌, ◌++◌, ◌^◌, Option, Some, None, is_some, option_to_list}
use Rattle.words.specs.Words.{arith, ℕ, List, length, refl, ◌∙◌, ap, [], suc, true, zero, get_or, false, Bool, cond}
use Rattle.words.specs.Words.{leb, eqb, add-one, length-append, not-suc-le-zero, le_of_suc-le-suc, lit<, replicate}
use native.Mathlib.Decide.{le_ind}
use lib.ListN.{replicate-append-replicate}
use Rattle.tinymt.specs.Generator.{start_of, draw_of, low4, low8}
use Rattle.memory.specs.Number.{Bytes}
use Rattle.wire.specs.Numbers.{key_after}
use Rattle.wire.specs.Packets.{Sized, repair_packet}
use Rattle.wire.proofs.Reading.{repair-symbols, repair_key_lem, density_threshold_lem, protected_count_lem}
use Rattle.wire.specs.declared.Scheme.{Scheme}
use Rattle.wire.specs.declared.Scheme.TheVariants.{Gf2, Gf256}
use Rattle.coefficients.specs.Coefficients.{last_zero, nonzero_from, bit_of, byte_of, coefficient_of, Coefficient, Coefficients, extend, coefficients_of, keys}
use Rattle.coefficients.specs.Coefficients.{all_ok, draws_of, packet_draws}

-- one coefficient more after a list that was not refused, and after one that was
module _ (scheme : Scheme) (dt : ℕ) (l : Coefficients) where
  pub extend_ok : l.ok ≡ true → {c : Coefficient} → c ≡ coefficient_of scheme dt l.state
      → extend scheme dt l ≡ record { list = l.list ++ option_to_list c.value; ok = is_some c.value; draws = l.draws + c.draws; state = c.state }
  unfolding extend
  extend_ok e ec = rw (e, ← ec)

  pub extend-refused : l.ok ≡ false → extend scheme dt l ≡ l
  unfolding extend
  extend-refused e = rw e

module _ (scheme : Scheme) (key dt : ℕ) where
  pub list_more : (i : ℕ) → coefficients_of scheme key dt (i + 1) ≡ extend scheme dt (coefficients_of scheme key dt i)
  unfolding coefficients_of
  list_more i = rw add-one

  pub refused_stays : (i n : ℕ) → i ≤ n → (coefficients_of scheme key dt i).ok ≡ false → (coefficients_of scheme key dt n).ok ≡ false
  unfolding coefficients_of
  refused_stays i n h e =
      le_ind (λ (m : ℕ). (coefficients_of scheme key dt m).ok ≡ false) e
      (λ m k f. ap (λ (l : Coefficients). l.ok) (extend-refused scheme dt (coefficients_of scheme key dt m) f) ∙ f) n h

  ok_before : (n : ℕ) → (coefficients_of scheme key dt (suc n)).ok ≡ true → (coefficients_of scheme key dt n).ok ≡ true
  unfolding coefficients_of
  ok_before n e = go (coefficients_of scheme key dt n).ok refl
    where
      go : (b : Bool) → (coefficients_of scheme key dt n).ok ≡ b → (coefficients_of scheme key dt n).ok ≡ true
      go true f = f
      go false f = cc (extend-refused scheme dt (coefficients_of scheme key dt n) f)

  one_value : (o : Option ℕ) → is_some o ≡ true → length (option_to_list o) ≡ 1
  one_value None e = cc
  one_value (Some v) e = refl

  -- a list that was not refused has as many coefficients as were asked
  pub list_length : (n : ℕ) → (coefficients_of scheme key dt n).ok ≡ true → length (coefficients_of scheme key dt n).list ≡ n
  unfolding coefficients_of
  list_length zero e = refl
  list_length (suc n) e =
      let f = ok_before n e in
      let l = extend_ok scheme dt (coefficients_of scheme key dt n) f {c = coefficient_of scheme dt (coefficients_of scheme key dt n).state} refl in
      rw (l, length-append, list_length n f, one_value _ (rw l at e), add-one)

-- at the density threshold 15 GF(2) has all ones, for any key
pub ones : (key n : ℕ) → coefficients_of Gf2 key 15 n ≡ record { list = replicate n 1; ok = true; draws = 0; state = start_of key }
unfolding coefficients_of extend bit_of
ones key zero = refl
ones key (suc n) = rw (ones key n, replicate-append-replicate {A = ℕ} n 1 1, add-one)

-- ---- the keys of a packet

pub length-keys : (key count : ℕ) → length (keys key count) ≡ count
length-keys key zero = refl
length-keys key (suc count) = ap suc (length-keys (key_after key) count)

-- key i is i after the first, modulo 65,536
pub key_at : (key count i : ℕ) → key < 2 ^ 16 → i < count → get_or (keys key count) i 0 ≡ (key + i) % 2 ^ 16
key_at key zero i k h = absurd (not-suc-le-zero h)
key_at key (suc count) zero k h = omega arith
key_at key (suc count) (suc i) k h = key_at (key_after key) count i (omega arith) (le_of_suc-le-suc h) ∙ omega arith

-- ---- what a coefficient is

cond_both : {A : Type 0} (P : A → Type 0) (b : Bool) {x y : A} → P x → P y → P (cond b x y)
cond_both P true p q = p
cond_both P false p q = q

-- a value that is there is below b
abbrev ValueBelow : ℕ → Option ℕ → Type 0
ValueBelow b None = Unit {0}
ValueBelow b (Some v) = v < b

nonzero_byte_lt : (n k : ℕ) (s : List ℕ) → ValueBelow 256 (nonzero_from n k s).value
unfolding nonzero_from
nonzero_byte_lt zero k s = tt
nonzero_byte_lt (suc n) k s =
    cond_both (λ (c : Coefficient). ValueBelow 256 c.value) (eqb (low8 (draw_of s).value) 0) (nonzero_byte_lt n (k + 1) (draw_of s).state) (omega arith)

bit_small : (b dt : ℕ) (s : List ℕ) → 2 ≤ b → ValueBelow b (bit_of dt s).value
unfolding bit_of
bit_small b dt s h =
    cond_both (λ (c : Coefficient). ValueBelow b c.value) (eqb dt 15) (omega arith)
    (cond_both (λ (v : ℕ). v < b) (leb (low4 (draw_of s).value) dt) (omega arith) (omega arith))

bit_ok : (dt : ℕ) (s : List ℕ) → is_some (bit_of dt s).value ≡ true
unfolding bit_of
bit_ok dt s = cond_both (λ (c : Coefficient). is_some c.value ≡ true) (eqb dt 15) refl refl

value-lt : (scheme : Scheme) (dt : ℕ) (s : List ℕ) → ValueBelow 256 (coefficient_of scheme dt s).value
unfolding byte_of
value-lt Gf2 dt s = bit_small 256 dt s (omega arith)
value-lt Gf256 dt s =
    cond_both (λ (c : Coefficient). ValueBelow 256 c.value) (eqb dt 15) (nonzero_byte_lt last_zero 0 s)
    (cond_both (λ (c : Coefficient). ValueBelow 256 c.value) (leb (low4 (draw_of s).value) dt) (nonzero_byte_lt last_zero 1 (draw_of s).state) (lit< tt))

-- every element is below b
abbrev pub Below : ℕ → List ℕ → Type 0
Below b l = (i : ℕ) → get_or l i 0 < b

below_append : (b : ℕ) → 0 < b → (l k : List ℕ) → Below b l → Below b k → Below b (l ++ k)
below_append b z [] k h g i = g i
below_append b z (x ∷ l) k h g zero = h 0
below_append b z (x ∷ l) k h g (suc i) = below_append b z l k (λ j. h (suc j)) g i

below_value : (b : ℕ) (o : Option ℕ) → 0 < b → ValueBelow b o → Below b (option_to_list o)
below_value b None z h = λ i. z
below_value b (Some v) z h = elim [ zero ↦ h | suc i ↦ z ]

-- a list is below what each of its coefficients is below
module _ (scheme : Scheme) (key dt b : ℕ) (z : 0 < b) (h : (s : List ℕ) → ValueBelow b (coefficient_of scheme dt s).value) where
  list_below : (n : ℕ) → Below b (coefficients_of scheme key dt n).list
  unfolding coefficients_of extend
  list_below zero = λ i. z
  list_below (suc n) =
      let l = coefficients_of scheme key dt n in
      let c = coefficient_of scheme dt l.state in
      cond_both (λ (r : Coefficients). Below b r.list) l.ok
      (below_append b z l.list _ (list_below n) (below_value b c.value z (h l.state)))
      (list_below n)

-- every coefficient of GF(2) is 0 or 1
pub bits : (key dt n : ℕ) → Below 2 (coefficients_of Gf2 key dt n).list
bits key dt n = list_below Gf2 key dt 2 (lit< tt) (λ s. bit_small 2 dt s (omega arith)) n

-- every coefficient is a byte
pub list_bytes : (scheme : Scheme) (key dt n : ℕ) → Bytes (coefficients_of scheme key dt n).list
list_bytes scheme key dt n = list_below scheme key dt 256 (lit< tt) (value-lt scheme dt) n

-- GF(2) never meets refusal 10
pub bits_ok : (key dt n : ℕ) → (coefficients_of Gf2 key dt n).ok ≡ true
unfolding coefficients_of extend
bits_ok key dt zero = refl
bits_ok key dt (suc n) = rw (bits_ok key dt n) (bit_ok dt (coefficients_of Gf2 key dt n).state)

pub bits_all_ok : (dt n : ℕ) (l : List ℕ) → all_ok Gf2 dt n l ≡ true
bits_all_ok dt n [] = refl
bits_all_ok dt n (key ∷ l) = rw (bits_ok key dt n) (bits_all_ok dt n l)

-- ---- the draws

-- looking for a byte that is not zero takes at most n draws
nonzero_draws : (n k : ℕ) (s : List ℕ) → (nonzero_from n k s).draws ≤ k + n
unfolding nonzero_from
nonzero_draws zero k s = omega arith
nonzero_draws (suc n) k s =
    cond_both (λ (c : Coefficient). c.draws ≤ k + suc n) (eqb (low8 (draw_of s).value) 0)
    (omega (arith, nonzero_draws n (k + 1) (draw_of s).state)) (omega arith)

-- one coefficient takes at most 17: rand16 and sixteen bytes
pub coefficient_draws_most : (scheme : Scheme) (dt : ℕ) (s : List ℕ) → (coefficient_of scheme dt s).draws ≤ 17
unfolding bit_of byte_of
coefficient_draws_most Gf2 dt s = cond_both (λ (c : Coefficient). c.draws ≤ 17) (eqb dt 15) (omega arith) (omega arith)
coefficient_draws_most Gf256 dt s =
    cond_both (λ (c : Coefficient). c.draws ≤ 17) (eqb dt 15) (omega (arith, nonzero_draws last_zero 0 s))
    (cond_both (λ (c : Coefficient). c.draws ≤ 17) (leb (low4 (draw_of s).value) dt) (nonzero_draws last_zero 1 (draw_of s).state) (omega arith))

pub list_draws_most : (scheme : Scheme) (key dt n : ℕ) → (coefficients_of scheme key dt n).draws ≤ 17 * n
unfolding coefficients_of extend
list_draws_most scheme key dt zero = omega arith
list_draws_most scheme key dt (suc n) =
    let l = coefficients_of scheme key dt n in
    cond_both (λ (r : Coefficients). r.draws ≤ 17 * suc n) l.ok
    (omega (arith, list_draws_most scheme key dt n, coefficient_draws_most scheme dt l.state)) (omega (arith, list_draws_most scheme key dt n))

-- those of a packet within our sizes at most 69,360: 16 lists of 255 coefficients, 17 × 255 = 4,335 each
lists_draws_most : (scheme : Scheme) (dt n : ℕ) → n ≤ 255 → (ks : List ℕ) → draws_of scheme dt n ks ≤ 4335 * length ks
lists_draws_most scheme dt n h [] = omega arith
lists_draws_most scheme dt n h (key ∷ ks) = omega (arith, list_draws_most scheme key dt n, lists_draws_most scheme dt n h ks)

pub packet_draws_most : (scheme : Scheme) (dt n : ℕ) → n ≤ 255 → (ks : List ℕ) → length ks ≤ 16 → draws_of scheme dt n ks ≤ 69360
packet_draws_most scheme dt n h ks k = omega (arith, lists_draws_most scheme dt n h ks)

-- a packet takes the draws of the lists that its symbols were made with
pub written_draws : (scheme : Scheme) (key dt nss first E : ℕ) (xs : List (List ℕ)) → Sized E xs → 0 < E → key < 2 ^ 16 → dt < 16 → nss < 4096
    → packet_draws scheme E (repair_packet key dt nss first xs) ≡ draws_of scheme dt nss (keys key (length xs))
unfolding packet_draws
written_draws scheme key dt nss first E xs s z k d n =
    rw (
      repair-symbols key dt nss first E xs s z,
      repair_key_lem key dt nss first xs k,
      density_threshold_lem key dt nss first xs d n,
      protected_count_lem key dt nss first xs d n,
    )
