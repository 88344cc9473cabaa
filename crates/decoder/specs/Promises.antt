-- What is proved of the decoder (proofs/Promises): a system of equations says, at any time, exactly what the accepted packets say of the
-- positions that are left, though the rows of those that have departed are gone.
use Rattle.std.specs.Prelude.{◌≡◌, ◌≤◌, ◌+◌, ◌<◌, ◌≢◌, ◌↔◌}
use Rattle.words.specs.Words.{ℕ, List, Some, None, Option, bit_xor}
use Rattle.std.specs.Int.Bits.{bit_and}
use Rattle.decoder.specs.Field.{Ops}
use Rattle.decoder.specs.Model.{Filling, Row, eval, State, Sat, Rref, insert, known}
use Rattle.decoder.specs.Receiver.{shift, Accepted, Packet, Satisfies, SatisfiesAll, Receiver, advance_by, receive, Fitting, Log, opened, run}
use Rattle.decoder.specs.Packets.{source, Repair, repair, Combined}
use Rattle.decoder.specs.Bytes.{byte, Coded}
use Rattle.decoder.specs.Tuples.{Byte}

module _ {O : Ops} where
  open O use {Sym}

  -- The system describes the history: it is reduced, every filling of the accepted packets satisfies it from the base on,
  -- and every filling of it is that of a filling of the accepted packets.
  pub record Follows {w : ℕ} (A : List (Packet O)) (r : Receiver O w) : Type 0 where
    pub rref : Rref r.window
    pub sound : (f : Filling O) → SatisfiesAll O A f → Sat r.window (shift r.base f)
    pub complete : (x : Filling O) → Sat r.window x → (f : Filling O) × SatisfiesAll O A f × (shift r.base f ≡ x)

  -- What it shows is right, and all that can be shown.
  pub record Faithful {w : ℕ} (A : List (Packet O)) (r : Receiver O w) : Type 0 where
    -- Some filling satisfies all accepted packets.
    pub filling : (f : Filling O) × SatisfiesAll O A f
    -- What is shown is what every such filling has there, a sender's among them.
    pub shown : (i : ℕ) (v : Sym) → known r.window i ≡ Some v → (f : Filling O) → SatisfiesAll O A f → f (r.base + i) ≡ v
    -- Where nothing is shown, two such fillings differ.
    pub hidden : (i : ℕ) → known r.window i ≡ None
        → (f g : Filling O) × SatisfiesAll O A f × SatisfiesAll O A g × (f (r.base + i) ≢ g (r.base + i))
    -- So a position is known exactly if all such fillings agree there.
    pub exactly : (i : ℕ)
        → Accepted (known r.window i) ↔ ((f g : Filling O) → SatisfiesAll O A f → SatisfiesAll O A g → f (r.base + i) ≡ g (r.base + i))

  -- Demand 3 of a receiver and the packets that it has accepted: besides, the next packet is accepted exactly if some filling satisfies it
  -- and all accepted before.
  pub record Demand3 {w : ℕ} (l : Log O w) : Type 0 where
    pub follows : Follows l.accepted l.receiver
    pub answers : Faithful l.accepted l.receiver
    pub verdict : (p : Packet O) → Fitting l.receiver p
        → Accepted (receive l.receiver p) ↔ ((f : Filling O) × Satisfies O p f × SatisfiesAll O l.accepted f)

  -- Every packet that a call locates lies ahead of the base and is no longer than the window.
  abbrev pub Locates : {Call : Type 0} → ℕ → (Call → ℕ → Option (Packet O)) → Type 0
  Locates {Call} w locate = (c : Call) (b : ℕ) (p : Packet O) → locate c b ≡ Some p → (b ≤ p.first) × (p.count ≤ w)

-- What holds of every system of equations, and of every list of calls.
pub record Decoder (O : Ops) : Type 1 where
  -- Every system has a filling.
  pub filling : {n : ℕ} (S : State O n) → (x : Filling O) × Sat S x
  -- An equation contradicts a reduced system exactly if no filling of the system satisfies it.
  pub contradiction : {n : ℕ} (S : State O n) (e : Row O n) → Rref S
      → (insert S e ≡ None) ↔ ((x : Filling O) → Sat S x → eval O n e x ≢ O.null)
  -- Else the system stays reduced, and its fillings are those that satisfy the equation too.
  pub addition : {n : ℕ} (S S' : State O n) (e : Row O n) → Rref S → insert S e ≡ Some S'
      → Rref S' × ((x : Filling O) → Sat S' x ↔ (Sat S x × (eval O n e x ≡ O.null)))
  -- Projection: when the `d` oldest positions depart, the fillings of what is left are those of the system, without the first `d` symbols.
  pub projection : {n : ℕ} (d : ℕ) (S : State O n) (y : Filling O)
      → Sat (advance_by d S) y ↔ ((x : Filling O) × Sat S x × (shift d x ≡ y))
  -- A position is known exactly if all fillings agree there, and then with their symbol.
  pub known_exactly : {n : ℕ} (S : State O n) → Rref S → (i : ℕ)
      → Accepted (known S i) ↔ ((x y : Filling O) → Sat S x → Sat S y → x i ≡ y i)
  pub known_right : {n : ℕ} (S : State O n) (i : ℕ) (v : O.Sym) → known S i ≡ Some v → (x : Filling O) → Sat S x → x i ≡ v
  -- Canonical form: two reduced systems with the same fillings are equal.
  pub canonical : {n : ℕ} (S T : State O n) → Rref S → Rref T → ((x : Filling O) → Sat S x ↔ Sat T x) → S ≡ T
  -- A source packet is satisfied exactly if its positions hold its symbols, a repair packet if each repair symbol is its combination.
  pub source-says : (p n : ℕ) (s : ℕ → O.Sym) (f : Filling O) → Satisfies O (source O p n s) f ↔ ((i : ℕ) → i < n → f (p + i) ≡ s i)
  pub repair-says : (p n : ℕ) (es : List (Repair O)) (f : Filling O) → Satisfies O (repair O p n es) f ↔ Combined O n es (shift p f)
  -- Two receivers with one base whose accepted packets have the same fillings, in whatever order they came, know the same.
  pub order : {w : ℕ} (A B : List (Packet O)) (r s : Receiver O w) → Faithful A r → Faithful B s → r.base ≡ s.base
      → ((f : Filling O) → SatisfiesAll O A f ↔ SatisfiesAll O B f) → (i : ℕ) → known r.window i ≡ known s.window i
  -- Demand 3, after every list of calls, at whatever base the first finds the receiver.
  pub demand_3 : {w : ℕ} {Call : Type 0} (locate : Call → ℕ → Option (Packet O)) → Locates w locate
      → (base : ℕ) (cs : List Call) → Demand3 (run locate (opened O w base) cs)

-- All this at the field of bytes, for symbols of any length but zero and windows of any width.
abbrev pub ByteDecoder : Type 1
ByteDecoder = (E : ℕ) → 0 < E → Decoder (Coded E)

-- Scheme 9 in the field of bytes: sums of the coefficients 0 and 1 are XOR and products AND, so 0 or 1 again, the inverse of 1 is 1,
-- and a coefficient keeps a whole symbol or drops it.
pub record Scheme9 (E : ℕ) : Type 0 where
  pub sum : (c d : Byte) → c.0 < 2 → d.0 < 2 → (((Coded E).◌+◌ c d).0 ≡ bit_xor c.0 d.0) × (bit_xor c.0 d.0 < 2)
  pub product : (c d : Byte) → c.0 < 2 → d.0 < 2 → (((Coded E).◌*◌ c d).0 ≡ bit_and c.0 d.0) × (bit_and c.0 d.0 < 2)
  pub inverse : (Coded E).inv (byte 1) ≡ byte 1
  pub keeps : (v : (Coded E).Sym) → (Coded E).◌•◌ (byte 1) v ≡ v
  pub drops : (v : (Coded E).Sym) → (Coded E).◌•◌ (byte 0) v ≡ (Coded E).null
