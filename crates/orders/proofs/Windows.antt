-- What packets say of the stream, and where they bring the base, does not depend on their order.
-- Index
--   Among, all_among: what satisfies all of some packets satisfies all of fewer
--   Ahead: each packet of a log lay ahead of the base that it found
--   Based, based: the base is the least first position, or where some packet just fits
--   same_base: so it is the same for the same packets
--   ahead_on: each packet that a list of calls has accepted lay ahead
use Rattle.std.specs.Prelude.{◌≡◌, ◌≤◌, ◌+◌, ◌<◌, ◌-◌, ◌∷◌, ◌⊎◌}
use Rattle.words.specs.Words.{arith, ℕ, List, length, refl, sym, ap, [], Some, None, subst, inl, inr, ⊎_elim, dec_lt}
use mathlib.Core.List.Memᴰ
use mathlib.Core.List.{Memᴰ}
use Rattle.wire.specs.declared.Setting.{Setting}
use Rattle.wire.specs.Settings.{Valid}
use Rattle.wire.specs.Answers.{Said, value, refusal, said}
use Rattle.history.specs.History.{Filling, Located, first, named, Satisfied, All, OfBytes, Reading, fails, located, base_for, Log, raised, base_of, logged}
use Rattle.history.proofs.Readings.{reading_passes}
use Rattle.receiver.specs.Promises.{Layout}
use Rattle.claims.specs.Run.{Step, Run, read, goes_on}

abbrev pub Among : List Located → List Located → Type 0
Among qs rs = (q : Located) → Memᴰ q qs → Memᴰ q rs

-- ---- What they say

satisfied : (E : ℕ) (rs : List Located) (f : Filling E) → All E rs f → (q : Located) → Memᴰ q rs → Satisfied E q f
satisfied E [] f h q k = absurd (Memᴰ.not-nil k)
satisfied E (r ∷ rs) f h q k =
    let rest = satisfied E rs f h.1 q in
    ⊎_elim (λ e. subst (λ x. Satisfied E x f) (sym e) h.0) (λ n. rest n) (Memᴰ.cases_cons k)

pub all_among : (E : ℕ) (qs rs : List Located) → Among qs rs → (f : Filling E) → All E rs f → All E qs f
all_among E [] rs c f h = tt
all_among E (q ∷ qs) rs c f h = (satisfied E rs f h q (c q (Memᴰ.head refl)), all_among E qs rs (λ r k. c r (Memᴰ.tail k)) f h)

-- ---- Where they bring the base

module _ (s : Setting) where
  open s use {size as E, width}

  -- Each packet of a log lay ahead of the base that it found.
  abbrev pub Ahead : Log → Type 0
  Ahead [] = Unit {0}
  Ahead (q ∷ l) = (base_for (base_of s l) (first q) ≤ first q) × Ahead l

  -- The base is the least first position of a packet, or where the last position of some packet just fits, and no packet reaches past its window.
  record Based (l : Log) (b : ℕ) : Type 0 where
    fits : (q : Located) → Memᴰ q l → first q + named q ≤ b + width
    joined : Located
    joined_in : Memᴰ joined l
    least : (q : Located) → Memᴰ q l → first joined ≤ first q
    low : first joined ≤ b
    tight : (b ≡ first joined) ⊎ ((q : Located) × Memᴰ q l × (first q + named q ≡ b + width))

  -- Of one packet, and of one more.
  one : (q : Located) (x : Located) → Memᴰ x (q ∷ []) → x ≡ q
  one q x k = ⊎_elim (λ e. e) (λ n. absurd (Memᴰ.not-nil n)) (Memᴰ.cases_cons k)

  based_first : (q : Located) → Dec (first q < first q + named q - width) → Based (q ∷ []) (raised s None q)
  based_first q d = record {
    fits = λ x k. let e : first x + named x ≡ first q + named q = ap (λ y. first y + named y) (one q x k) in omega (arith, e);
    joined = q;
    joined_in = Memᴰ.head refl;
    least = λ x k. let e : first x ≡ first q = ap first (one q x k) in omega (arith, e);
    low = omega arith;
    tight = go d;
  }
    where
      go : Dec (first q < first q + named q - width)
          → (raised s None q ≡ first q) ⊎ ((x : Located) × Memᴰ x (q ∷ []) × (first x + named x ≡ raised s None q + width))
      go (yes h) = inr (q, Memᴰ.head refl, omega arith)
      go (no h) = inl (omega arith)

  based_more : (q : Located) (l : Log) (b : ℕ) → b ≤ first q → Based l b → Dec (b < first q + named q - width) → Based (q ∷ l) (raised s (Some b) q)
  based_more q l b a k d = record {
    fits = λ x m.
        ⊎_elim (λ e. let z : first x + named x ≡ first q + named q = ap (λ y. first y + named y) e in omega (arith, z))
        (λ n. let z = k.fits x n in omega (arith, z)) (Memᴰ.cases_cons m);
    joined = k.joined;
    joined_in = Memᴰ.tail k.joined_in;
    least = λ x m.
        ⊎_elim (λ e. let z : first x ≡ first q = ap first e in omega (arith, z, k.low)) (λ n. k.least x n) (Memᴰ.cases_cons m);
    low = omega (arith, k.low);
    tight = go d k.tight;
  }
    where
      go : Dec (b < first q + named q - width) → (b ≡ first k.joined) ⊎ ((x : Located) × Memᴰ x l × (first x + named x ≡ b + width))
          → (raised s (Some b) q ≡ first k.joined) ⊎ ((x : Located) × Memᴰ x (q ∷ l) × (first x + named x ≡ raised s (Some b) q + width))
      go (yes h) t = inr (q, Memᴰ.head refl, omega arith)
      go (no h) (inl e) = inl (omega (arith, e))
      go (no h) (inr (x, m, e)) = inr (x, Memᴰ.tail m, omega (arith, e))

  based : (q : Located) (l : Log) → Ahead (q ∷ l) → Based (q ∷ l) (raised s (base_of s l) q)
  based q [] a = based_first q (dec_lt _ _)
  based q (r ∷ l) a = based_more q (r ∷ l) (raised s (base_of s l) r) a.0 (based r l a.1) (dec_lt _ _)

  below : (l k : Log) (b c : ℕ) → Among l k → Among k l → Based l b → Based k c → b ≤ c
  below l k b c there back x y = go x.tight
    where
      go : (b ≡ first x.joined) ⊎ ((q : Located) × Memᴰ q l × (first q + named q ≡ b + width)) → b ≤ c
      go (inl e) = let z = x.least y.joined (back y.joined y.joined_in) in omega (arith, e, z, y.low)
      go (inr (q, m, e)) = let z = y.fits q (there q m) in omega (arith, e, z)

  pub same_base : (l k : Log) → Ahead l → Ahead k → Among l k → Among k l → base_of s l ≡ base_of s k
  same_base [] [] a b there back = refl
  same_base [] (q ∷ k) a b there back = absurd (Memᴰ.not-nil (back q (Memᴰ.head refl)))
  same_base (q ∷ l) [] a b there back = absurd (Memᴰ.not-nil (there q (Memᴰ.head refl)))
  same_base (q ∷ l) (r ∷ k) a b there back =
      let x = based q l a in
      let y = based r k b in
      let up = below (q ∷ l) (r ∷ k) _ _ there back x y in
      let down = below (r ∷ k) (q ∷ l) _ _ back there y x in
      let e : raised s (base_of s l) q ≡ raised s (base_of s k) r = omega (arith, up, down) in
      ap Some e

-- ---- The calls of a list

module _ (L : Layout) (s : Setting) (flows : List ℕ) (v : Valid s) where
  ahead_one : (l : Log) (r : Reading) (a : Said) → ((q : Located) → r ≡ located q → base_for (base_of s l) (first q) ≤ first q) → Ahead s l
      → Ahead s (logged s l r a)
  ahead_one l (located q) (value n) f h = (f q refl, h)
  ahead_one l (located q) (refusal n) f h = h
  ahead_one l (fails m) a f h = h

  lies_ahead : (l : Log) (t : Step) → OfBytes t.call → (q : Located) → read s flows l t ≡ located q → base_for (base_of s l) (first q) ≤ first q
  lies_ahead l t b q e =
      let (f, z) = reading_passes s flows (omega (arith, v.size_least)) l (length t.working) t.call q b e in
      omega (arith, f.ahead, z)

  pub ahead_on : (ts : List Step) (m : List ℕ) (l : Log) → Run L m ts → Ahead s l → Ahead s (goes_on s flows l ts)
  ahead_on [] m l r h = h
  ahead_on (t ∷ ts) m l r h =
      ahead_on ts t.memory _ r.2 (ahead_one l (read s flows l t) (said t.answer) (lies_ahead l t r.0) h)
