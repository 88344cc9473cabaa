-- The numbers that were counted, as a list.
use Rattle.std.specs.Prelude.{◌≡◌, ◌∷◌, ◌≤◌, ◌<◌}
use Rattle.words.specs.Words.{refl, ap, List, [], ℕ, zero, suc, arith, not-suc-le-zero, ℕ_discrete, length, get_or}
use Rattle.history.specs.History.{Counted, nothing, has, lacks}

-- every number has the property or has it not, so they can be counted
pub count : (P : ℕ → Type 0) → ((j : ℕ) → Dec (P j)) → (n : ℕ) → (k : ℕ) × Counted P n k
count P d zero = (0, nothing)
count P d (suc n) = go (d n) (count P d n)
  where
    go : Dec (P n) → ((k : ℕ) × Counted P n k) → (k : ℕ) × Counted P (suc n) k
    go (yes p) (k, c) = (suc k, has p c)
    go (no p) (k, c) = (k, lacks p c)

module _ {P : ℕ → Type 0} where
  -- those that were counted
  pub listed : {n k : ℕ} → Counted P n k → List ℕ
  listed nothing = []
  listed (has {n} p c) = n ∷ listed c
  listed (lacks p c) = listed c

  pub listed-length : {n k : ℕ} (c : Counted P n k) → length (listed c) ≡ k
  unfolding listed
  listed-length nothing = refl
  listed-length (has p c) = ap suc (listed-length c)
  listed-length (lacks p c) = listed-length c

  pub listed_small : {n k : ℕ} (c : Counted P n k) (l : ℕ) → l < length (listed c) → get_or (listed c) l 0 < n
  unfolding listed
  listed_small nothing l h = absurd (not-suc-le-zero h)
  listed_small (has p c) zero h = omega arith
  listed_small (has p c) (suc l) h = let s = listed_small c l (omega arith) in omega arith
  listed_small (lacks p c) l h = let s = listed_small c l h in omega arith

  pub listed_different : {n k : ℕ} (c : Counted P n k) (l m : ℕ) → l < length (listed c) → m < length (listed c)
      → get_or (listed c) l 0 ≡ get_or (listed c) m 0 → l ≡ m
  unfolding listed
  listed_different nothing l m h g e = absurd (not-suc-le-zero h)
  listed_different (has p c) zero zero h g e = refl
  listed_different (has p c) zero (suc m) h g e = let s = listed_small c m (omega arith) in absurd (omega arith)
  listed_different (has p c) (suc l) zero h g e = let s = listed_small c l (omega arith) in absurd (omega arith)
  listed_different (has p c) (suc l) (suc m) h g e = ap suc (listed_different c l m (omega arith) (omega arith) e)
  listed_different (lacks p c) l m h g e = listed_different c l m h g e

  pub listed_has : {n k : ℕ} (c : Counted P n k) (l : ℕ) → l < length (listed c) → P (get_or (listed c) l 0)
  unfolding listed
  listed_has nothing l h = absurd (not-suc-le-zero h)
  listed_has (has p c) zero h = p
  listed_has (has p c) (suc l) h = listed_has c l (omega arith)
  listed_has (lacks p c) l h = listed_has c l h

  -- a number below n that has the property is listed
  pub listed_at : {n k : ℕ} (c : Counted P n k) (j : ℕ) → j < n → P j → (l : ℕ) × (l < length (listed c)) × (get_or (listed c) l 0 ≡ j)
  unfolding listed
  listed_at nothing j h p = absurd (not-suc-le-zero h)
  listed_at (has {n} q c) j h p = go (ℕ_discrete n j) (λ g. listed_at c j g p)
    where
      go : Dec (n ≡ j) → (j < n → (l : ℕ) × (l < length (listed c)) × (get_or (listed c) l 0 ≡ j))
          → (l : ℕ) × (l < suc (length (listed c))) × (get_or (n ∷ listed c) l 0 ≡ j)
      go (yes e) ih = (0, omega arith, e)
      go (no e) ih = let (l, g, f) = ih (omega arith) in (suc l, omega arith, f)
  listed_at (lacks {n} q c) j h p = go (ℕ_discrete n j) (λ g. listed_at c j g p)
    where
      go : Dec (n ≡ j) → (j < n → (l : ℕ) × (l < length (listed c)) × (get_or (listed c) l 0 ≡ j))
          → (l : ℕ) × (l < length (listed c)) × (get_or (listed c) l 0 ≡ j)
      go (yes e) ih = absurd (q (rw e p))
      go (no e) ih = ih (omega arith)

  -- where the first m have the property, at least m were counted
  pub counted_most : {n k : ℕ} → Counted P n k → (m : ℕ) → m ≤ n → ((i : ℕ) → i < m → P i) → m ≤ k
  counted_most nothing m h f = h
  counted_most (has {n} p c) m h f = go (ℕ_discrete m (suc n)) (counted_most c)
    where
      go : {k : ℕ} → Dec (m ≡ suc n) → ((m : ℕ) → m ≤ n → ((i : ℕ) → i < m → P i) → m ≤ k) → m ≤ suc k
      go (yes e) ih = let t = ih n (omega arith) (λ i g. f i (omega arith)) in omega arith
      go (no e) ih = let t = ih m (omega arith) f in omega arith
  counted_most (lacks {n} p c) m h f = go (ℕ_discrete m (suc n)) (counted_most c)
    where
      go : {k : ℕ} → Dec (m ≡ suc n) → ((m : ℕ) → m ≤ n → ((i : ℕ) → i < m → P i) → m ≤ k) → m ≤ k
      go (yes e) ih = absurd (p (f n (omega arith)))
      go (no e) ih = ih m (omega arith) f
