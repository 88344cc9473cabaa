-- Where the position with an ESI stands: what the code's tests find, and what that says of every state that the memory holds.
-- Laws:
--   side: finds_side, side_is_ahead, side_is_behind
--   stand by the tests: stands_unopened, stands_fresh, stands_behind, stands_past, stands_inside
--   in the window: InWindow, Stood, stood, Looks, looks
--   outside it: Hidden, side_held, hidden
use Rattle.std.specs.Prelude.{◌≡◌, ◌≤◌, ◌+◌, ◌<◌, ◌%◌, ◌≢◌, ◌^◌, Result, Ok, Err}
use Rattle.std.specs.Bool.{then_some}
use Rattle.words.specs.Words.{arith, ℕ, List, length, refl, ◌∙◌, sym, ap, Some, true, None, false, Bool, subst, Option, cond, ltb}
use Rattle.words.specs.Words.{none-ne-some, lt-ltb, mod-eq_of_lt, true≢false, le-ltb, ltb-true, ltb-false}
use Rattle.wire.specs.declared.Setting.{Setting}
use Rattle.wire.specs.declared.Refusal.{Refusal}
use Rattle.wire.specs.declared.Refusal.TheVariants.{Unopened, Behind, Unknown}
use Rattle.wire.specs.Numbers.{distance_of, number_of}
use Rattle.table.specs.declared.Shape.{Shape}
use Rattle.table.specs.Window.{row_offset, Fits}
use Rattle.starts.specs.Adu.{withholds, need}
use Rattle.starts.specs.Starts.{Starts}
use Rattle.history.specs.History.{Side, behind, ahead, halfway, side_of}
use Rattle.history.specs.Model.{Joined, State, hides, finding, adu_at}
use Rattle.history.proofs.Sides.{side_same}
use Rattle.holding.specs.declared.Header.{Header}
use Rattle.holding.specs.Header.{header_in}
use Rattle.holding.specs.Layout.{Holds}
use Rattle.holding.specs.Inner.{shape_of, side_found, stand_on, stand_of}
use Rattle.holding.proofs.Headers.{headed, header-room, memory_is, header_fits, of-header, of-joined}

-- ---- The side, in the code's words

module _ (b e d : ℕ) (small : b < 2 ^ 32) (is : d ≡ distance_of e b) where
  pub finds_side : then_some (ltb d halfway) d ≡ side_found (side_of b e)
  unfolding side_of
  finds_side = rw (mod-eq_of_lt small, ← is) (go (ltb d halfway))
    where
      go : (t : Bool) → then_some t d ≡ side_found (cond t (ahead d) behind)
      go true = refl
      go false = refl

pub side_is_ahead : (s : Side) (d : ℕ) {r : Option ℕ} → r ≡ side_found s → r ≡ Some d → s ≡ ahead d
side_is_ahead behind d e f = cc
side_is_ahead (ahead x) d e f = cc

pub side_is_behind : (s : Side) {r : Option ℕ} → r ≡ side_found s → r ≡ None → s ≡ behind
side_is_behind behind e f = refl
side_is_behind (ahead x) e f = cc

-- ---- The stand, by the code's tests

abbrev pub inside : Shape → ℕ → Result (Shape × ℕ) Refusal
inside shape d = Ok (shape, d)

module _ (m : List ℕ) (e : ℕ) where
  pub stands_unopened : header_in m ≡ None → Err Unopened ≡ stand_of e (header_in m)
  stands_unopened k = rw k

  module _ (h : Header) (k : header_in m ≡ Some h) where
    pub stands_fresh : h.joined ≡ false → Err Unknown ≡ stand_of e (header_in m)
    stands_fresh j = rw (k, j)

    module _ (j : h.joined ≡ true) where
      pub stands_behind : side_of h.esi.0 e ≡ behind → Err Behind ≡ stand_of e (header_in m)
      stands_behind s = rw (k, j, s)

      module _ (d : ℕ) (s : side_of h.esi.0 e ≡ ahead d) where
        pub stands_past : h.setting.width ≤ d → Err Unknown ≡ stand_of e (header_in m)
        stands_past l = rw (k, j, s, le-ltb d h.setting.width l)

        pub stands_inside : d < h.setting.width → inside (shape_of h) d ≡ stand_of e (header_in m)
        stands_inside l = rw (k, j, s, lt-ltb d h.setting.width l)

-- ---- In the window

-- The position with the ESI e is the d-th of the window that the header tells of.
pub record InWindow (m : List ℕ) (e d : ℕ) (h : Header) : Type 0 where
  pub has : header_in m ≡ Some h
  pub joined : h.joined ≡ true
  pub side : side_of h.esi.0 e ≡ ahead d
  pub inside : d < h.setting.width

abbrev IsInside : Result (Shape × ℕ) Refusal → Type 0
IsInside (Ok (shape, d)) = Unit {0}
IsInside (Err x) = ⊥

abbrev shape_in : Shape → Result (Shape × ℕ) Refusal → Shape
shape_in y (Ok (shape, d)) = shape
shape_in y (Err x) = y

abbrev place_in : Result (Shape × ℕ) Refusal → ℕ
place_in (Ok (shape, d)) = d
place_in (Err x) = 0

-- It is that of a window of this shape.
pub record Stood (m : List ℕ) (e d : ℕ) (shape : Shape) : Type 0 where
  pub header : Header
  pub window : InWindow m e d header
  pub is : shape ≡ shape_of header

pub stood : (m : List ℕ) (e d : ℕ) (shape : Shape) {r : Result (Shape × ℕ) Refusal} → r ≡ stand_of e (header_in m) → r ≡ Ok (shape, d) → Stood m e d shape
stood m e d shape told is = go (header_in m) refl (sym is ∙ told)
  where
    within : (h : Header) → header_in m ≡ Some h → h.joined ≡ true → (x : ℕ) → side_of h.esi.0 e ≡ ahead x → (t : Bool) → ltb x h.setting.width ≡ t
        → inside shape d ≡ cond t (Ok (shape_of h, x)) (Err Unknown) → Stood m e d shape
    within h k j x s false l q = absurd (subst IsInside q tt)
    within h k j x s true l q =
        let i : d ≡ x = ap place_in q in
        record {
          header = h;
          window = record {
            has = k;
            joined = j;
            side = s ∙ ap ahead (sym i);
            inside = subst (λ y. y < h.setting.width) (sym i) (ltb-true x h.setting.width l);
          };
          is = ap (shape_in shape) q;
        }

    on : (h : Header) → header_in m ≡ Some h → h.joined ≡ true → (s : Side) → side_of h.esi.0 e ≡ s → inside shape d ≡ stand_on h s → Stood m e d shape
    on h k j behind s q = absurd (subst IsInside q tt)
    on h k j (ahead x) s q = within h k j x s (ltb x h.setting.width) refl q

    joins : (h : Header) → header_in m ≡ Some h → (t : Bool) → h.joined ≡ t
        → inside shape d ≡ cond t (stand_on h (side_of h.esi.0 e)) (Err Unknown) → Stood m e d shape
    joins h k false j q = absurd (subst IsInside q tt)
    joins h k true j q = on h k j (side_of h.esi.0 e) refl q

    go : (o : Option Header) → header_in m ≡ o → inside shape d ≡ stand_of e o → Stood m e d shape
    go None k q = absurd (subst IsInside q tt)
    go (Some h) k q = joins h k h.joined refl q

-- What looking there asks.
pub record Looks (m : List ℕ) (d : ℕ) (shape : Shape) : Type 0 where
  pub fits : Fits shape.width shape.size m
  pub origins : row_offset shape.width shape.size shape.width + shape.width ≤ length m
  pub oldest : shape.oldest < shape.width
  pub inside : d < shape.width

pub looks : {m : List ℕ} {e d : ℕ} {shape : Shape} → Stood m e d shape → Looks m d shape
looks {m} {e} {d} {shape} g =
    let h = g.header in
    let has = g.window.has in
    subst (Looks m d) (sym g.is)
    (record {
      fits = header_fits m h has;
      origins = omega (arith, header-room m h has, memory_is h.setting);
      oldest = (headed m h has).row_lt;
      inside = g.window.inside;
    })

-- ---- Outside the window

-- Nothing is shown of the position with the ESI e, and this is why.
pub record Hidden (m : List ℕ) (e : ℕ) (x : Refusal) : Type 0 where
  pub unopened : header_in m ≡ None → x ≡ Unopened
  pub opened : (h : Header) → header_in m ≡ Some h → number_of x ≢ 3
  pub symbol : (s : Setting) (t : State s) → Holds m s t → finding s t e ≡ hides (number_of x)
  pub adu : (s : Setting) (t : State s) → Holds m s t → (flows : List ℕ) (M : Starts) (room : ℕ) → adu_at s flows t M room e ≡ withholds (number_of x)

-- Every base with the header's ESI has the header's side.
pub side_held : (e b : ℕ) (h : Header) → h.esi.0 ≡ b % 2 ^ 32 → side_of b e ≡ side_of h.esi.0 e
side_held e b h q = side_same b h.esi.0 e (omega (arith, q))

module _ (m : List ℕ) (e : ℕ) where
  hidden_unopened : header_in m ≡ None → Hidden m e Unopened
  hidden_unopened k = record {
    unopened = λ _. refl;
    opened = λ h q. absurd (none-ne-some h (sym k ∙ q));
    symbol = λ s t g. absurd (none-ne-some _ (sym k ∙ g.header));
    adu = λ s t g. absurd (none-ne-some _ (sym k ∙ g.header));
  }

  module _ (h : Header) (k : header_in m ≡ Some h) where
    hidden_fresh : h.joined ≡ false → Hidden m e Unknown
    unfolding finding adu_at
    hidden_fresh j = record {
      unopened = λ z. absurd (none-ne-some h (sym z ∙ k));
      opened = λ y z q. omega (arith, q);
      symbol = of-header m h k (λ s t. finding s t e ≡ hides 12) (λ _. refl) (λ t g i r b. absurd (true≢false (sym i ∙ j)));
      adu = of-header m h k (λ s t. (flows : List ℕ) (M : Starts) (room : ℕ) → adu_at s flows t M room e ≡ withholds 12) (λ _ flows M room. refl)
          (λ t g i r b. absurd (true≢false (sym i ∙ j)));
    }

    module _ (j : h.joined ≡ true) where
      -- With a base, by the side alone.
      by_side : (x : Refusal) → number_of x ≢ 3
          → ((t : Joined h.setting) → side_of t.base e ≡ side_of h.esi.0 e → finding h.setting (Some t) e ≡ hides (number_of x))
          → ((t : Joined h.setting) → side_of t.base e ≡ side_of h.esi.0 e → (flows : List ℕ) (M : Starts) (room : ℕ)
          → adu_at h.setting flows (Some t) M room e ≡ withholds (number_of x))
          → Hidden m e x
      by_side x n f g = record {
        unopened = λ z. absurd (none-ne-some h (sym z ∙ k));
        opened = λ y z. n;
        symbol = of-joined m h k j (λ s t. finding s t e ≡ hides (number_of x)) (λ t _ _ b. f t (side_held e t.base h b));
        adu = of-joined m h k j (λ s t. (flows : List ℕ) (M : Starts) (room : ℕ) → adu_at s flows t M room e ≡ withholds (number_of x))
            (λ t _ _ b. g t (side_held e t.base h b));
      }

      hidden_behind : side_of h.esi.0 e ≡ behind → Hidden m e Behind
      unfolding finding adu_at
      hidden_behind s = by_side Behind (λ q. omega (arith, q)) (λ t q. rw (q, s)) (λ t q flows M room. rw (q, s))

      hidden_past : (d : ℕ) → side_of h.esi.0 e ≡ ahead d → h.setting.width ≤ d → Hidden m e Unknown
      unfolding finding adu_at need
      hidden_past d s l =
          by_side Unknown (λ q. omega (arith, q)) (λ t q. rw (q, s, le-ltb d h.setting.width l))
          (λ t q flows M room. rw (q, s, le-ltb d h.setting.width l))

abbrev Outlying : (m : List ℕ) (e : ℕ) → Result (Shape × ℕ) Refusal → Type 0
Outlying m e (Ok (shape, d)) = Unit {0}
Outlying m e (Err x) = Hidden m e x

outlying : (m : List ℕ) (e : ℕ) → Outlying m e (stand_of e (header_in m))
outlying m e = go (header_in m) refl
  where
    past : (h : Header) → header_in m ≡ Some h → h.joined ≡ true → (d : ℕ) → side_of h.esi.0 e ≡ ahead d → (t : Bool) → ltb d h.setting.width ≡ t
        → Outlying m e (cond t (Ok (shape_of h, d)) (Err Unknown))
    past h k j d s true l = tt
    past h k j d s false l = hidden_past m e h k j d s (ltb-false d h.setting.width l)

    on : (h : Header) → header_in m ≡ Some h → h.joined ≡ true → (s : Side) → side_of h.esi.0 e ≡ s → Outlying m e (stand_on h s)
    on h k j behind s = hidden_behind m e h k j s
    on h k j (ahead d) s = past h k j d s (ltb d h.setting.width) refl

    joins : (h : Header) → header_in m ≡ Some h → (t : Bool) → h.joined ≡ t
        → Outlying m e (cond t (stand_on h (side_of h.esi.0 e)) (Err Unknown))
    joins h k false j = hidden_fresh m e h k j
    joins h k true j = on h k j (side_of h.esi.0 e) refl

    go : (o : Option Header) → header_in m ≡ o → Outlying m e (stand_of e o)
    go None k = hidden_unopened m e k
    go (Some h) k = joins h k h.joined refl

pub hidden : (m : List ℕ) (e : ℕ) (x : Refusal) {r : Result (Shape × ℕ) Refusal} → r ≡ stand_of e (header_in m) → r ≡ Err x → Hidden m e x
hidden m e x told is = subst (Outlying m e) (sym told ∙ is) (outlying m e)
