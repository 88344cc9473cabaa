-- Positions that have become known: how many of a packet's own, and that there are no others.
-- Counting in memory: unseen_empty, one_outside, one_inside, tallied_none, tallied_more, tallied_to.
-- A packet that has no others: old_ones.
use Rattle.std.specs.Prelude.{◌≡◌, ◌≤◌, ◌+◌, ◌<◌, ◌-◌, ◌%◌, ◌⊎◌}
use Rattle.std.specs.Int.{from_bool}
use Rattle.placing.proofs.Placing.{at_most_one}
use Rattle.words.specs.Words.{arith, ℕ, List, refl, ◌∙◌, sym, ap, Some, suc, true, zero, None, false, Bool, subst, Option, ap₂}
use Rattle.words.specs.Words.{none-ne-some, add-zero, dec_lt, add-one, mod-add-mod, inr, inl, add-suc, add_assoc}
use Rattle.decoder.specs.Field.{Ops, Laws}
use Rattle.decoder.specs.Bytes.{Coded}
use Rattle.decoder.specs.Model.{Row, State, end, free, pivot, Rref, known}
use Rattle.decoder.specs.Receiver.{empty, advance_by, insert_all, is_new, count_new, newly}
use Rattle.decoder.proofs.Bytes.{laws}
use Rattle.decoder.proofs.Elimination.{solution, solution_sat, known_sound}
use Rattle.decoder.proofs.Counting.{count_more, known_grows}
use Rattle.placing.specs.Place.{KnownAt}
use Rattle.starts.specs.Starts.{shown, seen}
use Rattle.starts.specs.Settled.{Old}
use Rattle.marks.specs.MarkSteps.{one_if, tally, OneKnown, Tallied}
use Rattle.decoder.proofs.History as history

-- ---- counting in memory

known-outside : {O : Ops} {n : ℕ} (S : State O n) (i : ℕ) → n ≤ i → known S i ≡ None
unfolding known
known-outside end i h = refl
known-outside (free S) zero h = absurd (omega arith)
known-outside (free S) (suc i) h = known-outside S i (omega arith)
known-outside (pivot r S) zero h = absurd (omega arith)
known-outside (pivot r S) (suc i) h = known-outside S i (omega arith)

-- Nothing is known of a window without equations.
known_empty : (E w i : ℕ) → known (empty (Coded E) w) i ≡ None
unfolding known empty
known_empty E zero i = refl
known_empty E (suc w) zero = refl
known_empty E (suc w) (suc i) = known_empty E w i

pub unseen_empty : (E w i : ℕ) → seen E w (empty (Coded E) w) i ≡ None
unseen_empty E w i = ap (shown E) (known_empty E w i)

pub one_outside : (w E oldest i : ℕ) (m : List ℕ) → w ≤ i → OneKnown w E oldest i false m
one_outside w E oldest i m h b S e v = sym (ap one_if (known-outside S i h))

module _ (w E oldest i r : ℕ) (m : List ℕ) (l : i < w) (here : r ≡ (oldest + i) % w) where
  there : (b : ℕ) → b % w ≡ oldest → (b + i) % w ≡ r
  there b e = sym (mod-add-mod b w i) ∙ ap (λ k. (k + i) % w) e ∙ sym here

  pub one_inside : (t : Bool) → KnownAt w E r t m → OneKnown w E oldest i t m
  one_inside true k b S e v = sym (ap one_if (k b i S l (there b e) v))
  one_inside false k b S e v = sym (ap one_if (k b i S l (there b e) v))

pub tallied_none : (w E oldest first : ℕ) (m : List ℕ) → Tallied w E oldest first 0 0 m
unfolding tally
tallied_none w E oldest first m = record { most = omega arith; told = λ b S e v. refl }

pub tallied_more : (w E oldest first i r : ℕ) (x : Bool) (m : List ℕ) → Tallied w E oldest first i r m → OneKnown w E oldest (first + i) x m
    → Tallied w E oldest first (i + 1) (r + from_bool x) m
unfolding tally
tallied_more w E oldest first i r x m f g = record {
  most = omega (arith, f.most, at_most_one x);
  told = λ b S e v. ap₂ (λ (y z : ℕ). y + z) (f.told b S e v) (g b S e v) ∙ ap (tally (known S) first) (sym (add-one i));
}

pub tallied_to : {w E oldest first i n r : ℕ} {m : List ℕ} → i ≡ n → Tallied w E oldest first i r m → Tallied w E oldest first n r m
tallied_to {w} {E} {oldest} {first} {i} {n} {r} {m} e f = subst (λ x. Tallied w E oldest first x r m) e f

-- ---- counts of what is new

module _ {A : Type 0} (f g : ℕ → Option A) (mono : (i : ℕ) (v : A) → g i ≡ Some v → f i ≡ Some v) where
  one_new : (i : ℕ) → is_new (f i) (g i) + one_if (g i) ≡ one_if (f i)
  unfolding is_new
  one_new i = go (f i) (g i) (mono i)
    where
      go : (x y : Option A) → ((v : A) → y ≡ Some v → x ≡ Some v) → is_new x y + one_if y ≡ one_if x
      go None None h = refl
      go None (Some v) h = absurd (none-ne-some v (h v refl))
      go (Some u) None h = refl
      go (Some u) (Some v) h = refl

  -- Those of n positions from `first` on.
  own_new : (first n : ℕ) → count_new (first + n) f g + tally g first n ≡ count_new first f g + tally f first n
  unfolding tally
  own_new first zero = ap₂ (λ (x y : ℕ). x + y) (ap (λ k. count_new k f g) (add-zero first)) refl
  own_new first (suc n) =
      let a : count_new (first + suc n) f g ≡ count_new (first + n) f g + is_new (f (first + n)) (g (first + n)) =
      ap (λ k. count_new k f g) (add-suc first n) ∙ count_more (first + n) f g in
      let b = one_new (first + n) in
      let c = own_new first n in
      omega (arith, a, b, c)

  tally_up : (first n : ℕ) → tally g first n ≤ tally f first n
  unfolding tally
  tally_up first zero = omega arith
  tally_up first (suc n) = let b = one_new (first + n) in omega (arith, b, tally_up first n)

  more_new : (m d : ℕ) → count_new m f g ≤ count_new (m + d) f g
  more_new m zero = let e : m + zero ≡ m = add-zero m in omega (arith, ap (λ k. count_new k f g) e)
  more_new m (suc d) =
      let a : count_new (m + suc d) f g ≡ count_new (m + d) f g + is_new (f (m + d)) (g (m + d)) =
      ap (λ k. count_new k f g) (add-suc m d) ∙ count_more (m + d) f g in
      omega (arith, a, more_new m d)

  new_up : (m n : ℕ) → m ≤ n → count_new m f g ≤ count_new n f g
  new_up m n h = let e : m + (n - m) ≡ n = omega arith in subst (λ k. count_new m f g ≤ count_new k f g) e (more_new m (n - m))

  not_new : (i : ℕ) (v : A) → f i ≡ Some v → is_new (f i) (g i) ≡ 0 → g i ≡ f i
  unfolding is_new
  not_new i v = go (f i) (g i) (mono i)
    where
      go : (x y : Option A) → ((v : A) → y ≡ Some v → x ≡ Some v) → x ≡ Some v → is_new x y ≡ 0 → y ≡ x
      go None y h e z = absurd (none-ne-some v e)
      go (Some u) None h e z = absurd (omega (arith, z))
      go (Some u) (Some t) h e z = sym (h t refl)

  -- Where all that is new of w positions is of those n, no other is.
  others_old : (w first n : ℕ) → first + n ≤ w → count_new w f g ≡ tally f first n - tally g first n
      → (i : ℕ) (v : A) → i < w → (i < first) ⊎ (first + n ≤ i) → f i ≡ Some v → g i ≡ f i
  others_old w first n fits e i v l side k = not_new i v k (go side)
    where
      here : count_new (suc i) f g ≡ count_new i f g + is_new (f i) (g i)
      here = count_more i f g

      go : (i < first) ⊎ (first + n ≤ i) → is_new (f i) (g i) ≡ 0
      go (inl h) =
          let a = own_new first n in
          let b = new_up (first + n) w fits in
          let c = new_up (suc i) first h in
          omega (arith, a, b, c, e, here, tally_up first n)
      go (inr h) =
          let a = own_new first n in
          let b = new_up (first + n) i h in
          let c = new_up (suc i) w l in
          omega (arith, a, b, c, e, here, tally_up first n)

-- ---- a packet

module _ (w E rise : ℕ) (S T : State (Coded E) w) (es : List (Row (Coded E) w)) (pos : 0 < E) (reduced : Rref S)
    (inserted : insert_all es (advance_by rise S) ≡ Some T) where
  L : Laws (Coded E)
  L = laws E pos

  added : history.AddedAll L (advance_by rise S) es (Some T)
  added =
      subst (history.AddedAll L (advance_by rise S) es) inserted
      (history.insert_all_added L es (advance_by rise S) (history.advance_by_rref L rise S reduced))

  -- What was known stays known.
  known_kept : (i : ℕ) (v : (Coded E).Sym) → known S (rise + i) ≡ Some v → known T i ≡ Some v
  known_kept i v e = go (known T i) refl
    where
      was : known (advance_by rise S) i ≡ Some v
      was = history.known_advance_by L rise S i ∙ e

      go : (o : Option (Coded E).Sym) → known T i ≡ o → known T i ≡ Some v
      go None k = absurd (none-ne-some v (sym (known_grows L (advance_by rise S) T added.0 (λ x t. ((added.1 x).0 t).0) i k) ∙ was))
      go (Some u) k =
          let x = solution L T in
          let s = solution_sat L T in
          k ∙ ap Some (sym (known_sound L T i u k x s) ∙ known_sound L (advance_by rise S) i v was x ((added.1 x).0 s).0)

  -- The positions of the packet, counted from the base before.
  tally-before : (first n : ℕ) → tally (λ i. known S (rise + i)) first n ≡ tally (known S) (rise + first) n
  unfolding tally
  tally-before first zero = refl
  tally-before first (suc n) =
      ap₂ (λ (x y : ℕ). x + y) (tally-before first n) (ap (λ k. one_if (known S k)) (sym (add_assoc rise first n)))

  -- Where the count of what is new is that of the packet's own positions, the others were known before.
  pub old_ones : (b first n : ℕ) → first + n ≤ w
      → newly (record { base = b; window = S }) (record { base = b + rise; window = T }) ≡ tally (known T) first n - tally (known S) (rise + first) n
      → Old w rise first n (seen E w S) (seen E w T)
  unfolding newly
  old_ones b first n fits e i v l side saw = near (dec_lt (rise + i) w) (value (known T i) refl saw)
    where
      f : ℕ → Option (Coded E).Sym
      f = known T

      counted : count_new w (known T) (λ j. known S (rise + j)) ≡ tally (known T) first n - tally (λ j. known S (rise + j)) first n
      counted =
          let d : b + rise - b ≡ rise = omega arith in
          ap (λ k. count_new w (known T) (λ j. known S (k + j))) (sym d) ∙ e ∙ ap (λ k. tally (known T) first n - k) (sym (tally-before first n))

      same : (u : (Coded E).Sym) → known T i ≡ Some u → known S (rise + i) ≡ known T i
      same u k = others_old (known T) (λ j. known S (rise + j)) known_kept w first n fits counted i u l side k

      value : (o : Option (Coded E).Sym) → known T i ≡ o → shown E (known T i) ≡ Some v → (u : (Coded E).Sym) × (known T i ≡ Some u)
      value None k z = absurd (none-ne-some v (sym (ap (shown E) k) ∙ z))
      value (Some u) k z = (u, k)

      near : Dec (rise + i < w) → (u : (Coded E).Sym) × (known T i ≡ Some u) → (rise + i < w) × (seen E w S (rise + i) ≡ Some v)
      near (yes h) (u, k) = (h, ap (shown E) (same u k) ∙ saw)
      near (no h) (u, k) = absurd (none-ne-some u (sym (known-outside S (rise + i) (omega arith)) ∙ same u k ∙ k))
