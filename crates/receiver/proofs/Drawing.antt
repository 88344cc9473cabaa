-- The answers of the packet calls with their draws.
use Rattle.std.specs.Prelude.{◌≡◌, ◌≤◌, Ok, Err}
use Rattle.words.specs.Words.{arith, ℕ, List, ◌∙◌, sym, ap, Some, some-injective, Option}
use Rattle.table.specs.Packet.{Works}
use Rattle.wire.specs.declared.Refusal.{Refusal}
use Rattle.holding.specs.declared.Header.{Header}
use Rattle.admission.specs.declared.packet.Location.{Location}
use Rattle.history.specs.History.{Call}
use Rattle.holding.specs.Header.{header_in}
use Rattle.receiver.specs.Promises.{draws_for, Received, PacketAnswered}
use Rattle.receiver.specs.Layout.{receiver_layout}
use Rattle.admission.specs.Steps.{WorksOn, Accepted}

module _ {c : Call} {m m' v v' : List ℕ} where
  -- A refusal has none.
  pub answered_refused : {r : Refusal} → Received receiver_layout c m m' v v' (Err r) → PacketAnswered receiver_layout c m m' v v' (Err r)
  answered_refused p = record { received = p; draws = tt }

  -- A packet was accepted.
  pub answered_done : (h g : Header) (at : Location) (w E : ℕ) (r : Option ℕ) (kept own n d : ℕ) → header_in m ≡ Some h → r ≡ Some kept → WorksOn w E v' r
      → Accepted g at kept own n v' m m' → d ≡ draws_for h.setting c → d ≤ 69360 → Received receiver_layout c m m' v v' (Ok n)
      → PacketAnswered receiver_layout c m m' v v' (Ok (n, d))
  answered_done h g at w E r kept own n d has all works done is few p =
      let k : Works w E kept v' = rw all at works in
      record {
        received = p;
        draws = record {
          draws = λ h' e. is ∙ ap (λ (y : Header). draws_for y.setting c) (some-injective h h' (sym has ∙ e));
          small = (omega (arith, done.marked.most, k.within, k.wide), few);
        };
      }
