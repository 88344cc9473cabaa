-- What the calls promise of the flows that 32 bytes announce: flows before a call, flows' after it.
use Rattle.std.specs.Prelude.{◌≡◌, ◌<◌, ◌||◌}
use Rattle.words.specs.Words.{ℕ, List, true, eqb}
use Rattle.wire.specs.Flows.{announced, all_flows}

-- one flow more is announced, and every other is or is not as before
abbrev pub Announces : (flow : ℕ) (flows flows' : List ℕ) → Type 0
Announces flow flows flows' = (F : ℕ) → F < 256 → announced flows' F ≡ (eqb F flow || announced flows F)

-- every flow is announced, by the bytes that do so
pub record AnnouncesAll (flows' : List ℕ) : Type 0 where
  pub bytes : flows' ≡ all_flows
  pub each : (F : ℕ) → F < 256 → announced flows' F ≡ true
