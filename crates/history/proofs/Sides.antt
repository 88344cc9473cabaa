-- Where the ESI of the position base + d lies.
use Rattle.std.specs.Prelude.{◌≡◌, ◌≤◌, ◌+◌, ◌<◌, ◌%◌, ◌^◌}
use Rattle.words.specs.Words.{arith, ℕ, List, refl, sym, ap, Some, true, false, Bool, subst, cond, ltb, le-leb, lt-leb, lt-ltb}
use Rattle.words.specs.Words.{le-ltb}
use Rattle.words.specs.Words.{ltb-true}
use Rattle.wire.specs.declared.Setting.{Setting}
use Rattle.wire.specs.Numbers.{distance_of}
use Rattle.decoder.specs.Model.{known}
use Rattle.history.specs.History.{Side, behind, ahead, side_of, Reading, fails, check, from_side, halfway, farthest}
use Rattle.starts.specs.Adu.{withholds, need, handing}
use Rattle.starts.specs.Starts.{Starts, seen}
use Rattle.history.specs.Model.{Joined, hides, shown, finding, adu_at}

-- What proofs need of the two distances.
pub record Limits : Type 0 where
  pub halves : halfway + halfway ≤ 2 ^ 32
  pub near : farthest < halfway
  pub wide : 255 ≤ farthest
  pub small : farthest ≤ 65536

pub limits : Limits
unfolding halfway farthest
limits = record { halves = omega arith; near = omega arith; wide = omega arith; small = omega arith }

abbrev IsBehind : Side → Type 0
IsBehind behind = Unit {0}
IsBehind (ahead d) = ⊥

abbrev place : Side → ℕ
place behind = 0
place (ahead d) = d

pub distance_is : (base d : ℕ) → d < 2 ^ 32 → distance_of ((base + d) % 2 ^ 32) (base % 2 ^ 32) ≡ d
distance_is base d h = omega arith

module _ (base d : ℕ) (small : d < 2 ^ 32) where
  pub side_ahead : d < halfway → side_of base ((base + d) % 2 ^ 32) ≡ ahead d
  unfolding side_of
  side_ahead h = rw (distance_is base d small, lt-ltb d halfway h)

  pub side_behind : halfway ≤ d → side_of base ((base + d) % 2 ^ 32) ≡ behind
  unfolding side_of
  side_behind h = rw (distance_is base d small, le-ltb d halfway h)

  -- Packets.
  pub side_taken : (n : ℕ) (next : ℕ → Reading) → d < halfway → d + n ≤ farthest → from_side n (side_of base ((base + d) % 2 ^ 32)) next ≡ next d
  unfolding from_side check
  side_taken n next h k = rw (side_ahead h, le-leb (d + n) farthest k)

  pub fails_behind : (n : ℕ) (next : ℕ → Reading) → halfway ≤ d → from_side n (side_of base ((base + d) % 2 ^ 32)) next ≡ fails 8
  unfolding from_side
  fails_behind n next h = rw (side_behind h)

  pub fails_far : (n : ℕ) (next : ℕ → Reading) → d < halfway → farthest < d + n → from_side n (side_of base ((base + d) % 2 ^ 32)) next ≡ fails 9
  unfolding from_side check
  fails_far n next h k = rw (side_ahead h, lt-leb (d + n) farthest k)

-- The side goes by the base's ESI alone.
pub side_same : (b c e : ℕ) → b % 2 ^ 32 ≡ c % 2 ^ 32 → side_of b e ≡ side_of c e
unfolding side_of
side_same b c e h = ap (λ x. let d = distance_of e x in cond (ltb d halfway) (ahead d) behind) h

-- What lies ahead of the base lies so far past it, and not behind.
pub record AheadBy (base e d : ℕ) : Type 0 where
  pub is : d ≡ distance_of e (base % 2 ^ 32)
  pub near : d < halfway

pub ahead_by : (base e d : ℕ) → side_of base e ≡ ahead d → AheadBy base e d
unfolding side_of
ahead_by base e d h = go (ltb x halfway) refl h
  where
    x : ℕ
    x = distance_of e (base % 2 ^ 32)

    go : (t : Bool) → ltb x halfway ≡ t → cond t (ahead x) behind ≡ ahead d → AheadBy base e d
    go true k q = record { is = sym (ap place q); near = subst (λ y. y < halfway) (ap place q) (ltb-true x halfway k) }
    go false k q = absurd (subst IsBehind q tt)

-- The symbol call.
module _ (s : Setting) (t : Joined s) (d : ℕ) (small : d < 2 ^ 32) where
  pub found_inside : d < halfway → d < s.width → finding s (Some t) ((t.base + d) % 2 ^ 32) ≡ shown s (t.base + d) (known t.window d)
  unfolding finding
  found_inside h k = rw (side_ahead t.base d small h, lt-ltb d s.width k)

  pub found-past : d < halfway → s.width ≤ d → finding s (Some t) ((t.base + d) % 2 ^ 32) ≡ hides 12
  unfolding finding
  found-past h k = rw (side_ahead t.base d small h, le-ltb d s.width k)

  pub found_behind : halfway ≤ d → finding s (Some t) ((t.base + d) % 2 ^ 32) ≡ hides 8
  unfolding finding
  found_behind h = rw (side_behind t.base d small h)

-- The ADU call.
module _ (s : Setting) (flows : List ℕ) (t : Joined s) (M : Starts) (room d : ℕ) (small : d < 2 ^ 32) where
  pub adu-inside : d < halfway → d < s.width
      → adu_at s flows (Some t) M room ((t.base + d) % 2 ^ 32) ≡ handing s.size s.width flows room M (seen s.size s.width t.window) d
  unfolding adu_at need
  adu-inside h k = rw (side_ahead t.base d small h, lt-ltb d s.width k)

  pub adu-past : d < halfway → s.width ≤ d → adu_at s flows (Some t) M room ((t.base + d) % 2 ^ 32) ≡ withholds 12
  unfolding adu_at need
  adu-past h k = rw (side_ahead t.base d small h, le-ltb d s.width k)

  pub adu_behind : halfway ≤ d → adu_at s flows (Some t) M room ((t.base + d) % 2 ^ 32) ≡ withholds 8
  unfolding adu_at
  adu_behind h = rw (side_behind t.base d small h)
