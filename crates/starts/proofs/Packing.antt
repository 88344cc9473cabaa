-- Whole symbols hold an ADUI: its F, its L, the ADU and zero padding are the ADUI that the wire's definition gives, and it reads so.
use Rattle.std.specs.Prelude.{◌≡◌, ◌≤◌, ◌+◌, ◌<◌, ◌-◌, ◌∷◌, ◌*◌, ◌++◌}
use Rattle.words.specs.Words.{arith, ℕ, List, length, refl, ◌∙◌, sym, ap, [], suc, true, zero, subst, drop, take, ap₂}
use Rattle.words.specs.Words.{eqb, zero-mul, length-drop, eqb-true, suc-mul, take-append-drop, length-take-le, take-append_seam}
use lib.Seq.{take-append-le, drop-append-le, drop-append_seam}
use Rattle.memory.specs.Part.{part}
use Rattle.memory.specs.Number.{bytes, Bytes}
use Rattle.memory.proofs.Parts.{cons-eq}
use Rattle.memory.proofs.Number.{number-bytes, bytes-number, number_lt}
use Rattle.wire.specs.Packets.{zeros, joined, chunks, symbol_count, adui}
use Rattle.wire.proofs.Adui.{room}
use Rattle.starts.specs.Adu.{flow_in, length_in, all_zero}
use Rattle.starts.proofs.Tests.{and-true}

pub part_front : (a k : ℕ) (v y : List ℕ) → a + k ≤ length v → part a k (v ++ y) ≡ part a k v
unfolding part
part_front a k v y h = ap (take k) (drop-append-le a v y (omega arith)) ∙ take-append-le k (drop a v) y (simp length-drop (omega arith))

-- ---- Symbols and their bytes

pub joined-chunks : (n s : ℕ) (m : List ℕ) → length m ≡ n * s → joined (chunks n s m) ≡ m
joined-chunks zero s [] e = refl
joined-chunks zero s (x ∷ m) e = absurd (omega (arith, zero-mul s))
joined-chunks (suc n) s m e =
    ap (λ (l : List ℕ). take s m ++ l) (joined-chunks n s (drop s m) (omega (arith, length-drop s m, suc-mul n s))) ∙ take-append-drop s m

-- ---- Zeros

pub zeros_of : (l : List ℕ) → all_zero l ≡ true → l ≡ zeros (length l)
zeros_of [] h = refl
zeros_of (b ∷ l) h =
    let (e, k) = (and-true (eqb b 0) (all_zero l)).0 h in
    cons-eq (eqb-true b 0 e) (zeros_of l k)

pub zeros_are : (n : ℕ) → all_zero (zeros n) ≡ true
zeros_are zero = refl
zeros_are (suc n) = zeros_are n

-- ---- F and L stand in the first three bytes

pub length_small : (v : List ℕ) → 3 ≤ length v → Bytes (part 1 2 v) → length_in v < 65536
unfolding part
length_small [] h b = absurd (omega arith)
length_small (x ∷ []) h b = absurd (omega arith)
length_small (x ∷ y ∷ []) h b = absurd (omega arith)
length_small (x ∷ y ∷ z ∷ v) h b = number_lt (y ∷ z ∷ []) b

-- ---- The ADUI

-- What has an ADUI's length and zero padding is the ADUI.
pub packed : (E : ℕ) → 0 < E → (x : List ℕ) → length x ≡ symbol_count E (length_in x) * E → Bytes (part 1 2 x)
    → all_zero (drop (3 + length_in x) x) ≡ true → adui (flow_in x) (part 3 (length_in x) x) E ≡ x
unfolding adui part
packed E h [] e b z = absurd (omega (arith, room E (length_in []) h))
packed E h (f ∷ []) e b z = absurd (omega (arith, room E (length_in (f ∷ [])) h))
packed E h (f ∷ a ∷ []) e b z = absurd (omega (arith, room E (length_in (f ∷ a ∷ [])) h))
packed E h (f ∷ a ∷ c ∷ r) e b z =
    let L = length_in (f ∷ a ∷ c ∷ r) in
    let k : length (take L r) ≡ L = length-take-le L r (omega (arith, room E L h)) in
    let three : 3 + L ≡ suc (suc (suc L)) = omega arith in
    let blank : all_zero (drop L r) ≡ true = subst (λ n. all_zero (drop n (f ∷ a ∷ c ∷ r)) ≡ true) three z in
    let left : symbol_count E L * E - (3 + L) ≡ length (drop L r) = omega (arith, length-drop L r) in
    let pad : zeros (symbol_count E (length (take L r)) * E - (3 + length (take L r))) ≡ drop L r =
    ap (λ n. zeros (symbol_count E n * E - (3 + n))) k ∙ ap zeros left ∙ sym (zeros_of (drop L r) blank) in
    let two : bytes 2 (length (take L r)) ≡ a ∷ c ∷ [] = ap (bytes 2) k ∙ bytes-number (a ∷ c ∷ []) b in
    ap₂ (λ (l y : List ℕ). f ∷ l ++ (take L r ++ y)) two pad ∙ ap (λ (l : List ℕ). f ∷ a ∷ c ∷ l) (take-append-drop L r)

-- And the ADUI reads so.
module _ (flow : ℕ) (adu : List ℕ) (E : ℕ) where
  abbrev pad : List ℕ
  pad = zeros (symbol_count E (length adu) * E - (3 + length adu))

  pub adui-length : length adu ≤ 65535 → length_in (adui flow adu E) ≡ length adu
  unfolding adui part
  adui-length h = number-bytes 2 (length adu) (omega arith)

  pub adui_flow : flow_in (adui flow adu E) ≡ flow
  unfolding adui
  adui_flow = refl

  pub adui-adu : part 3 (length adu) (adui flow adu E) ≡ adu
  unfolding adui part
  adui-adu = take-append_seam adu pad

  pub adui_padding : all_zero (drop (3 + length adu) (adui flow adu E)) ≡ true
  unfolding adui
  adui_padding =
      let three : suc (suc (suc (length adu))) ≡ 3 + length adu = omega arith in
      let e : drop (length adu) (adu ++ pad) ≡ pad = drop-append_seam adu pad in
      subst (λ n. all_zero (drop n (adui flow adu E)) ≡ true) three (ap all_zero e ∙ zeros_are (symbol_count E (length adu) * E - (3 + length adu)))
