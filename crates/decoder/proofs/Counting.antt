-- How many positions have become known: the difference of two counts.
use Rattle.std.specs.Prelude.{◌≡◌, ◌+◌, ◌-◌}
use Rattle.words.specs.Words.{arith, ℕ, List, refl, ◌∙◌, sym, ap, Some, suc, zero, None, subst, Option, ap₂, add_assoc}
use Rattle.words.specs.Words.{some-ne-none}
use Rattle.decoder.specs.Field.{Ops, Laws}
use Rattle.decoder.specs.Model.{tail, Filling, Row, State, Sat, Rref, known}
use Rattle.decoder.specs.Receiver.{is_new, count_new, advance_by, insert_all, newly}
use Rattle.decoder.proofs.Elimination.{known_sound, known_complete}
use Rattle.decoder.proofs.History as history

module _ {A : Type 0} where
  -- How many of the first `m` are there.
  abbrev pub count_all : ℕ → (ℕ → Option A) → ℕ
  count_all m f = count_new m f (λ _. None)

  -- One more.
  pub count_more : (m : ℕ) (f g : ℕ → Option A) → count_new (suc m) f g ≡ count_new m f g + is_new (f m) (g m)
  unfolding count_new
  count_more zero f g = let z : is_new (f 0) (g 0) + 0 ≡ 0 + is_new (f 0) (g 0) = omega arith in z
  count_more (suc m) f g =
      ap (λ k. is_new (f 0) (g 0) + k) (count_more m (tail f) (tail g)) ∙ sym (add_assoc (is_new (f 0) (g 0)) _ _)

  -- Where nothing is lost, those that are new and those that were there are all that are there.
  pub count_split : (m : ℕ) (f g : ℕ → Option A) → ((i : ℕ) → f i ≡ None → g i ≡ None) → count_new m f g + count_all m g ≡ count_all m f
  unfolding count_new is_new
  count_split zero f g h = refl
  count_split (suc m) f g h = go (f 0) (g 0) (h 0) _ _ _ (count_split m (tail f) (tail g) (λ i. h (suc i)))
    where
      go : (a b : Option A) → (a ≡ None → b ≡ None) → (x y z : ℕ) → x + y ≡ z → is_new a b + x + (is_new b None + y) ≡ is_new a None + z
      go None None h x y z e = omega arith
      go None (Some v) h x y z e = absurd (some-ne-none v (h refl))
      go (Some u) None h x y z e = omega arith
      go (Some u) (Some v) h x y z e = omega arith

module _ {O : Ops} (L : Laws O) where
  -- What is known stays known when equations are added.
  pub known_grows : {n : ℕ} (S S' : State O n) → Rref S' → ((x : Filling O) → Sat S' x → Sat S x) → (i : ℕ) → known S' i ≡ None → known S i ≡ None
  known_grows {n} S S' f s i k = go (known S i) refl
    where
      go : (o : Option O.Sym) → known S i ≡ o → known S i ≡ None
      go None e = e
      go (Some v) e =
          let (x, y, a, b, q) = known_complete L S' i f k in
          absurd (q (known_sound L S i v e x (s x a) ∙ sym (known_sound L S i v e y (s y b))))

  pub count_same : {A : Type 0} (m : ℕ) (f g h : ℕ → Option A) → ((i : ℕ) → g i ≡ h i) → count_new m f g ≡ count_new m f h
  unfolding count_new
  count_same zero f g h e = refl
  count_same (suc m) f g h e = ap₂ (λ o k. is_new (f 0) o + k) (e 0) (count_same m (tail f) (tail g) (tail h) (λ i. e (suc i)))

  -- The count of a packet: those known after it less those known before it, both over the new window.
  pub newly_difference : {w : ℕ} (b d : ℕ) (S S' : State O w) (es : List (Row O w)) → Rref S → insert_all es (advance_by d S) ≡ Some S'
      → newly (record { base = b; window = S }) (record { base = b + d; window = S' }) + count_all w (known (advance_by d S)) ≡ count_all w (known S')
  unfolding newly
  newly_difference {w} b d S S' es f i =
      let added = subst (λ o. history.AddedAll L (advance_by d S) es o) i (history.insert_all_added L es (advance_by d S) (history.advance_by_rref L d S f)) in
      let rise : (b + d) - b ≡ d = omega arith in
      ap (λ k. k + count_all w (known (advance_by d S)))
      (ap (λ k. count_new w (known S') (λ j. known S (k + j))) rise
      ∙ count_same w (known S') (λ j. known S (d + j)) (known (advance_by d S)) (λ j. sym (history.known_advance_by L d S j)))
      ∙ count_split w (known S') (known (advance_by d S)) (known_grows (advance_by d S) S' added.0 (λ x t. ((added.1 x).0 t).0))
