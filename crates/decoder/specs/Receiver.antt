-- The receiver: packets of equations over positions, all accepted or none, and the window that moves on to fit them.
use Rattle.std.specs.Prelude.{◌≡◌, ◌≤◌, ◌+◌, ◌-◌, ◌∷◌}
use Rattle.words.specs.Words.{ℕ, List, [], Some, suc, zero, None, Option, map}
use Rattle.decoder.specs.Field.{Ops}
use Rattle.decoder.specs.Model.{tail, Filling, Row, eval, symbol, State, end, free, insert, known, advance}

-- The filling from a position on.
abbrev pub shift : {A : Type 0} → ℕ → (ℕ → A) → ℕ → A
shift zero x = x
shift (suc d) x = shift d (tail x)

-- Go on with a value, if there is one.
abbrev pub and_then : {A B : Type 0} → Option A → (A → Option B) → Option B
and_then None g = None
and_then (Some a) g = g a

-- There is a value.
abbrev pub Accepted : {A : Type 0} → Option A → Type 0
Accepted None = ⊥
Accepted (Some _) = Unit {0}

-- One if there is a value now and was none before; and how many of the first `m` are such.
unfoldable pub is_new : {A : Type 0} → Option A → Option A → ℕ
is_new None o = 0
is_new (Some _) None = 1
is_new (Some _) (Some _) = 0

unfoldable pub count_new : {A : Type 0} → (m : ℕ) → (ℕ → Option A) → (ℕ → Option A) → ℕ
count_new zero now before = 0
count_new (suc m) now before = is_new (now 0) (before 0) + count_new m (tail now) (tail before)

module _ (O : Ops) where
  open O use {𝟘, null}

  -- Equations over `count` positions from `first` on: a row for each symbol of a source packet, and for each repair symbol.
  pub record Packet : Type 0 where
    pub first : ℕ
    pub count : ℕ
    pub rows : List (Row O count)

  -- The filling satisfies all these equations.
  abbrev pub Hold : (n : ℕ) → List (Row O n) → Filling O → Type 0
  Hold n [] x = Unit {0}
  Hold n (e ∷ es) x = (eval O n e x ≡ null) × Hold n es x

  -- The filling of the whole stream satisfies the packet; and every packet of a list.
  abbrev pub Satisfies : Packet → Filling O → Type 0
  Satisfies p f = Hold p.count p.rows (shift p.first f)

  abbrev pub SatisfiesAll : List Packet → Filling O → Type 0
  SatisfiesAll [] f = Unit {0}
  SatisfiesAll (p ∷ ps) f = Satisfies p f × SatisfiesAll ps f

  -- The row over a window of `w`, of which it covers `m` positions from the `d`th on.
  unfoldable pub embed : (w d m : ℕ) → Row O m → Row O w
  embed zero d m e = symbol O m e
  embed (suc w) zero zero e = (𝟘, embed w zero zero e)
  embed (suc w) zero (suc m) e = (e.0, embed w zero m e.1)
  embed (suc w) (suc d) m e = (𝟘, embed w d m e)

  -- A packet's rows over the window that begins at `b`.
  abbrev pub over : (w b : ℕ) → Packet → List (Row O w)
  over w b p = map (embed w (p.first - b) p.count) p.rows

  -- The receiver: the window's base, which is the oldest position that it still has, and the system over the window.
  pub record Receiver (w : ℕ) : Type 0 where
    pub base : ℕ
    pub window : State O w

  -- No equations yet.
  unfoldable pub empty : (w : ℕ) → State O w
  empty zero = end
  empty (suc w) = free (empty w)

  -- None, at a base.
  abbrev pub fresh : (w base : ℕ) → Receiver w
  fresh w b = record { base = b; window = empty w }

module _ {O : Ops} where
  -- The window moves on by several positions.
  unfoldable pub advance_by : {n : ℕ} → ℕ → State O n → State O n
  advance_by zero S = S
  advance_by (suc d) S = advance_by d (advance S)

  -- Add the equations, all or none.
  unfoldable pub insert_all : {n : ℕ} → List (Row O n) → State O n → Option (State O n)
  insert_all [] S = Some S
  insert_all (e ∷ es) S = and_then (insert S e) (λ S'. insert_all es S')

  -- By how much the base rises, least, so that the packet's last position fits.
  unfoldable pub rise : {w : ℕ} → Receiver O w → Packet O → ℕ
  rise {w} r p = (p.first + p.count) - (r.base + w)

  -- Take a packet that lies ahead of the base and is no longer than the window: `none` is refusal 11.
  unfoldable pub receive : {w : ℕ} → Receiver O w → Packet O → Option (Receiver O w)
  receive {w} r p =
      let d = rise r p in
      let base = r.base + d in
      and_then (insert_all (over O w base p) (advance_by d r.window))
      (λ S. Some (record { base = base; window = S }))

  -- Refusals that come before: 8 where it lies behind, 4 and 6 where it is longer than the window.
  abbrev pub Fitting : {w : ℕ} → Receiver O w → Packet O → Type 0
  Fitting {w} r p = (r.base ≤ p.first) × (p.count ≤ w)

  -- How many positions of the window are known now and were not before: its `i`th position was the `d + i`th before.
  unfoldable pub newly : {w : ℕ} → Receiver O w → Receiver O w → ℕ
  newly {w} r r' = count_new w (known r'.window) (λ i. known r.window ((r'.base - r.base) + i))

-- The receiver, and the packets that it has accepted, the last first.
pub record Log (O : Ops) (w : ℕ) : Type 0 where
  pub receiver : Receiver O w
  pub accepted : List (Packet O)

-- A list of calls. A call that is refused before 11 locates no packet at the base where it arrives.
module _ {O : Ops} {w : ℕ} where
  -- What a packet's answer adds to the log, what a call adds, and the log after all calls.
  abbrev pub answered : Log O w → Packet O → Option (Receiver O w) → Log O w
  answered l p None = l
  answered l p (Some r) = record { receiver = r; accepted = p ∷ l.accepted }

  abbrev pub called : Log O w → Option (Packet O) → Log O w
  called l None = l
  called l (Some p) = answered l p (receive l.receiver p)

  abbrev pub run : {Call : Type 0} → (Call → ℕ → Option (Packet O)) → Log O w → List Call → Log O w
  run locate l [] = l
  run locate l (c ∷ cs) = run locate (called l (locate c l.receiver.base)) cs

-- Before the first call.
abbrev pub opened : (O : Ops) (w base : ℕ) → Log O w
opened O w b = record { receiver = fresh O w b; accepted = [] }
