-- The answer: by which tests it is which, and what one that is a number of bytes says of the grid.
use Rattle.std.specs.Prelude.{◌≡◌, ◌≤◌, ◌<◌, ◌*◌, Result, Ok, Err}
use Rattle.words.specs.Words.{arith, ℕ, refl, ◌∙◌, sym, true, false, Bool, dec_lt, eqb, mul-le-mul, eqb-true, eq-eqb, lt-ltb, le-ltb}
use Rattle.words.specs.Words.{true≢false, List, length}
use Rattle.std.specs.Result.{IsErrAnd}
use native.Mathlib.Nat.{mul_comm}
use Rattle.wire.specs.Numbers.{within}
use Rattle.memory.specs.Part.{splice}
use Rattle.wire.specs.declared.Refusal.{Refusal}
use Rattle.wire.specs.Answers.{value, refusal, said}
use Rattle.wire.proofs.Settings.{both, within_true, within_bounds}
use Rattle.interleave.specs.Grid.{is_grid, answer_to}
use Rattle.interleave.specs.Inner.{Fits}
use Rattle.interleave.specs.Promises.{Rearranges}
use Rattle.interleave.specs.Claims.{SizeAllowed, IsGrid}

pub products : (E D L : ℕ) → E ≤ 1500 → D ≤ 255 → L ≤ 255 → (D * L ≤ 65025) × (D * L * E ≤ 97537500)
products E D L e d l = let h : D * L ≤ 255 * 255 = mul-le-mul d l in (h, mul-le-mul h e)

-- a value is no refusal
pub told_apart : {A : Type 0} (n k : ℕ) → value n ≡ refusal k → A
told_apart n k e = let z : ◌≡◌ {A = ℕ} 0 1 = cc in absurd (omega arith)

-- ---- the tests

size_true : (E : ℕ) → SizeAllowed E → within 4 1500 E ≡ true
size_true E (l, h) = within_true 4 1500 E l h

size_false : (E : ℕ) → ¬ SizeAllowed E → within 4 1500 E ≡ false
size_false E n = go (within 4 1500 E) refl
  where
    go : (b : Bool) → within 4 1500 E ≡ b → b ≡ false
    go true e = absurd (n (within_bounds 4 1500 E e))
    go false e = refl

module _ (E D L given : ℕ) where
  grid_true : IsGrid E D L given → is_grid E D L given ≡ true
  grid_true (d, d', l, l', e) = rw (within_true 1 255 D d d', within_true 1 255 L l l') (eq-eqb given (D * L * E) e)

  grid-is : is_grid E D L given ≡ true → IsGrid E D L given
  grid-is g =
      let (d, r) = both (within 1 255 D) _ g in
      let (l, w) = both (within 1 255 L) (eqb given (D * L * E)) r in
      let (d₁, d₂) = within_bounds 1 255 D d in
      let (l₁, l₂) = within_bounds 1 255 L l in
      (d₁, d₂, l₁, l₂, eqb-true given (D * L * E) w)

  grid_false : ¬ IsGrid E D L given → is_grid E D L given ≡ false
  grid_false n = go (is_grid E D L given) refl
    where
      go : (b : Bool) → is_grid E D L given ≡ b → b ≡ false
      go true e = absurd (n (grid-is e))
      go false e = refl

-- ---- the answers

module _ (E D L given room : ℕ) where
  pub said_size : ¬ SizeAllowed E → answer_to E D L given room ≡ refusal 1
  said_size n = rw (size_false E n)

  module _ (s : SizeAllowed E) where
    pub said-grid : ¬ IsGrid E D L given → answer_to E D L given room ≡ refusal 17
    said-grid n = rw (size_true E s, grid_false E D L given n)

    module _ (g : IsGrid E D L given) where
      pub said_short : room < given → answer_to E D L given room ≡ refusal 2
      said_short h = rw (size_true E s, grid_true E D L given g, lt-ltb room given h)

      pub said-bytes : given ≤ room → answer_to E D L given room ≡ value given
      said-bytes h = rw (size_true E s, grid_true E D L given g, le-ltb room given h)

  -- one of the four holds
  pub data Tested : Type 0 where
    no_size : ¬ SizeAllowed E → Tested
    no_grid : SizeAllowed E → ¬ IsGrid E D L given → Tested
    no_room : SizeAllowed E → IsGrid E D L given → room < given → Tested
    all_pass : SizeAllowed E → IsGrid E D L given → given ≤ room → Tested

  pub tested : Tested
  tested = go (within 4 1500 E) (is_grid E D L given) (dec_lt room given) refl refl
    where
      go : (a b : Bool) → Dec (room < given) → within 4 1500 E ≡ a → is_grid E D L given ≡ b → Tested
      go false b d e f = no_size (λ s. true≢false (sym (size_true E s) ∙ e))
      go true false d e f = no_grid (within_bounds 4 1500 E e) (λ g. true≢false (sym (grid_true E D L given g) ∙ f))
      go true true (yes h) e f = no_room (within_bounds 4 1500 E e) (grid-is E D L given f) h
      go true true (no h) e f = all_pass (within_bounds 4 1500 E e) (grid-is E D L given f) (omega arith)

  -- a number of bytes is answered to a grid with room for it
  pub passed : (n : ℕ) → value n ≡ answer_to E D L given room → SizeAllowed E × IsGrid E D L given × (given ≤ room)
  passed n e = go tested
    where
      go : Tested → SizeAllowed E × IsGrid E D L given × (given ≤ room)
      go (no_size a) = told_apart n 1 (e ∙ said_size a)
      go (no_grid s a) = told_apart n 17 (e ∙ said-grid s a)
      go (no_room s g h) = told_apart n 2 (e ∙ said_short s g h)
      go (all_pass s g h) = (s, g, h)

  pub fitting : (n : ℕ) → value n ≡ answer_to E D L given room → Fits E D L given room
  fitting n e =
      let ((s, s'), (d, d', l, l', w), h) = passed n e in
      record { size_most = s'; rows_least = d; rows_most = d'; columns_least = l; columns_most = l'; whole = w; fits = h }

-- the same bytes as a grid of L rows by D columns
pub turned_fits : {E D L given room : ℕ} → Fits E D L given room → Fits E L D given room
turned_fits {D = D} {L = L} f = record {
  size_most = f.size_most;
  rows_least = f.columns_least;
  rows_most = f.columns_most;
  columns_least = f.rows_least;
  columns_most = f.rows_most;
  whole = rw (mul_comm L D) f.whole;
  fits = f.fits;
}

-- the answer of the tests is a number of bytes
pub fits_done : {E D L given room n : ℕ} {a : Result ℕ Refusal} → said a ≡ answer_to E D L given room → a ≡ Ok n → Fits E D L given room
fits_done {E = E} {D = D} {L = L} {given = given} {room = room} {n = n} t e = fitting E D L given room n (rw e at t)

-- the answer of the tests, with the output after it: done, and refused
module _ {E D L : ℕ} {x src out : List ℕ} {a : Result ℕ Refusal} (t : said a ≡ answer_to E D L (length src) (length out)) where
  pub rearranged : {n : ℕ} {out' : List ℕ} → a ≡ Ok n → out' ≡ splice 0 x out → Rearranges E D L x src out (Ok n) out'
  rearranged e o = record { answer = rw e at t; output = o }

  pub left : {why : Refusal} → a ≡ Err why → Rearranges E D L x src out (Err why) out
  left e = record { answer = rw e at t; output = refl }

-- what the exit of a `?` returns
pub exit_err : {r : Result ℕ Refusal} {w : Refusal} → IsErrAnd r (λ y. y ≡ w) → r ≡ Err w
exit_err {r = Ok x} h = absurd h
exit_err {r = Err y} h = rw h
