-- A packet's equations one after the other, and the base position by position.
use Rattle.std.specs.Prelude.{◌≡◌, ◌≤◌, ◌∷◌, ◌++◌}
use Rattle.words.specs.Words.{arith, ℕ, List, refl, ap, [], Some, suc, zero, None, Option}
use Rattle.decoder.specs.Field.{Ops}
use Rattle.decoder.specs.Model.{Row, insert, State, end, free, pivot, extend, advance}
use Rattle.decoder.specs.Receiver.{advance_by, empty, insert_all, and_then}

module _ {O : Ops} where
  -- A loop over a packet's equations: what some have made, the rest go on with; and a contradiction stays one.
  pub insert_all_append : {n : ℕ} (es ds : List (Row O n)) (S : State O n)
      → insert_all (es ++ ds) S ≡ and_then (insert_all es S) (λ S'. insert_all ds S')
  unfolding insert_all
  insert_all_append [] ds S = refl
  insert_all_append {n} (e ∷ es) ds S = go (insert S e) (insert_all_append es ds)
    where
      go : (o : Option (State O n)) → ((S' : State O n) → insert_all (es ++ ds) S' ≡ and_then (insert_all es S') (λ S''. insert_all ds S''))
          → and_then o (λ S'. insert_all (es ++ ds) S') ≡ and_then (and_then o (λ S'. insert_all es S')) (λ S''. insert_all ds S'')
      go None ih = refl
      go (Some S') ih = ih S'

  -- A loop that moves on one position a turn.
  pub advance_by_suc : {n : ℕ} (d : ℕ) (S : State O n) → advance_by (suc d) S ≡ advance (advance_by d S)
  unfolding advance_by
  advance_by_suc zero S = refl
  advance_by_suc (suc d) S = advance_by_suc d (advance S)

  -- No row from the `j`th position on.
  FreeFrom : {n : ℕ} → State O n → ℕ → Type 0
  FreeFrom end j = Unit {0}
  FreeFrom (free S) zero = FreeFrom S zero
  FreeFrom (free S) (suc j) = FreeFrom S j
  FreeFrom (pivot r S) zero = ⊥
  FreeFrom (pivot r S) (suc j) = FreeFrom S j

  free_all : {n : ℕ} (S : State O n) (j : ℕ) → n ≤ j → FreeFrom S j
  unfolding FreeFrom
  free_all end j h = tt
  free_all (free S) zero h = absurd (omega arith)
  free_all (free S) (suc j) h = free_all S j (omega arith)
  free_all (pivot r S) zero h = absurd (omega arith)
  free_all (pivot r S) (suc j) h = free_all S j (omega arith)

  free_extend : {n : ℕ} (S : State O n) (j : ℕ) → FreeFrom S j → FreeFrom (extend S) j
  unfolding FreeFrom extend
  free_extend end zero f = tt
  free_extend end (suc j) f = tt
  free_extend (free S) zero f = free_extend S zero f
  free_extend (free S) (suc j) f = free_extend S j f
  free_extend (pivot r S) zero f = absurd f
  free_extend (pivot r S) (suc j) f = free_extend S j f

  free_advance : {n : ℕ} (S : State O n) (j : ℕ) → FreeFrom S (suc j) → FreeFrom (advance S) j
  unfolding FreeFrom advance
  free_advance end j f = tt
  free_advance (free S) j f = free_extend S j f
  free_advance (pivot r S) j f = free_extend S j f

  free_stays : {n : ℕ} (S : State O n) → FreeFrom S zero → FreeFrom (advance S) zero
  unfolding FreeFrom advance
  free_stays end f = tt
  free_stays (free S) f = free_extend S zero f
  free_stays (pivot r S) f = absurd f

  free_empty : {n : ℕ} (S : State O n) → FreeFrom S zero → S ≡ empty O n
  unfolding FreeFrom empty
  free_empty end f = refl
  free_empty (free S) f = ap free (free_empty S f)
  free_empty (pivot r S) f = absurd f

  empty_from : {n : ℕ} (d j : ℕ) (S : State O n) → j ≤ d → FreeFrom S j → FreeFrom (advance_by d S) zero
  unfolding advance_by
  empty_from zero zero S h f = f
  empty_from zero (suc j) S h f = absurd (omega arith)
  empty_from (suc d) zero S h f = empty_from d zero (advance S) (omega arith) (free_stays S f)
  empty_from (suc d) (suc j) S h f = empty_from d j (advance S) (omega arith) (free_advance S j f)

  -- A jump of the window's width or more leaves it empty.
  pub advance_by_empty : {n : ℕ} (d : ℕ) (S : State O n) → n ≤ d → advance_by d S ≡ empty O n
  advance_by_empty {n} d S h = free_empty (advance_by d S) (empty_from d n S h (free_all S n (omega arith)))
