-- Contracts of inner functions: a reader need not believe these.
-- What reading a packet finds, before its equations are gathered.
use Rattle.std.specs.Prelude.{◌≡◌, ◌≤◌, ◌+◌, ◌<◌, ◌%◌, ◌*◌, ◌^◌, ◌≢◌, Result, Ok, Err}
use Rattle.words.specs.Words.{ℕ, length, List, Some, None, drop}
use Rattle.wire.specs.declared.Setting.{Setting}
use Rattle.wire.specs.declared.Refusal.{Refusal}
use Rattle.wire.specs.Numbers.{number_of}
use Rattle.wire.specs.Flows.{flows_in}
use Rattle.wire.specs.Packets.{chunks, symbol_count, source_symbols, source_adu, repair_key, density_threshold, protected_count, repair_symbols}
use Rattle.coefficients.specs.Coefficients.{keys, lists_of, packet_draws}
use Rattle.holding.specs.declared.Header.{Header}
use Rattle.holding.specs.Header.{header_in}
use Rattle.holding.specs.Layout.{Holds}
use Rattle.history.specs.History.{Located, source, repair, Call, source-call, repair-call, esi_of, fails, located, farthest, working_size, reading}
use Rattle.history.specs.Model.{State, found_by}
use Rattle.admission.specs.declared.packet.Passed.{Passed}
use Rattle.admission.specs.Joining.{header_for}
use Rattle.admission.specs.declared.packet.Location.{Location}
use Rattle.admission.specs.Steps.{location_at, location_found}
use Rattle.wire.specs.declared.Refusal.TheVariants as refusals

-- A check fails: 3 exactly where the memory has no header, and else the history's number, of every state that the memory holds.
pub record Failed (c : Call) (m : List ℕ) (room : ℕ) (x : Refusal) : Type 0 where
  pub unopened : header_in m ≡ None → x ≡ refusals.Unopened
  pub opened : (h : Header) → header_in m ≡ Some h → number_of x ≢ 3
  pub told : (s : Setting) (t : State s) → Holds m s t → reading s (flows_in m) (found_by s t (esi_of c)).base room c ≡ fails (number_of x)

-- A packet call can begin: the memory has this header, and working memory is long enough for it; else every packet call fails so.
abbrev pub Ready : (m : List ℕ) (room : ℕ) → Result Header Refusal → Type 0
Ready m room (Ok h) = (header_in m ≡ Some h) × (working_size h.setting ≤ room)
Ready m room (Err x) = (c : Call) → Failed c m room x

-- Where n symbols from the ESI e on lie, with the header for them, by the receiver's header h.
abbrev pub Placed : Header → (e n : ℕ) → Result (Header × Location) Refusal → Type 0
Placed h e n (Ok (g, at)) = (g ≡ header_for h e) × (Ok at ≡ location_found (header_for h e) e n)
Placed h e n (Err x) = Err x ≡ location_found (header_for h e) e n

-- All checks pass at the header h: the packet is q p, where p is its first position, which is so many positions past the base.
pub record Passes (c : Call) (m : List ℕ) (room : ℕ) (h : Header) (q : ℕ → Located) (distance : ℕ) (p : Passed) : Type 0 where
  pub has : header_in m ≡ Some h
  pub lent : working_size h.setting ≤ room
  pub header : p.header ≡ header_for h (esi_of c)
  pub location : p.location ≡ location_at (header_for h (esi_of c)) distance p.named
  pub near : distance + p.named ≤ farthest
  pub names : 0 < p.named
  pub fits : p.named ≤ h.setting.width
  pub told : (b : ℕ) → b % 2 ^ 32 ≡ (header_for h (esi_of c)).esi.0 → reading h.setting (flows_in m) b room c ≡ located (q (b + distance))

-- A source packet passes.
pub record SourcePassed (flow : ℕ) (packet m : List ℕ) (room : ℕ) (p : Passed) : Type 0 where
  pub header : Header
  pub distance : ℕ
  pub passes : Passes (source-call flow packet) m room header
      (λ x. source x (source_symbols flow (source_adu packet) header.setting.size)) distance p
  pub named : p.named ≡ p.count
  pub count : p.count ≡ symbol_count header.setting.size (length (source_adu packet))
  pub form : 4 ≤ length packet
  pub short : length (source_adu packet) ≤ 65535

abbrev pub SourceRead : (flow : ℕ) (packet m : List ℕ) (room : ℕ) → Result Passed Refusal → Type 0
SourceRead flow packet m room (Ok p) = SourcePassed flow packet m room p
SourceRead flow packet m room (Err x) = Failed (source-call flow packet) m room x

-- The lists of coefficients of a repair packet at a receiver of the setting.
abbrev pub coefficient_lists : Setting → (packet : List ℕ) → List (List ℕ)
coefficient_lists s packet =
    lists_of s.scheme (density_threshold packet) (protected_count packet) (keys (repair_key packet) (length (repair_symbols s.size packet)))

-- A repair packet passes, and the lists of its coefficients stand one after the other in `lists`.
pub record RepairPassed (packet m : List ℕ) (room : ℕ) (lists : List ℕ) (p : Passed) : Type 0 where
  pub header : Header
  pub distance : ℕ
  pub passes : Passes (repair-call packet) m room header
      (λ x. repair x (protected_count packet) (coefficient_lists header.setting packet) (repair_symbols header.setting.size packet)) distance p
  pub named : p.named ≡ protected_count packet
  pub drawn : coefficient_lists header.setting packet ≡ chunks p.count p.named lists
  pub symbols : repair_symbols header.setting.size packet ≡ chunks p.count header.setting.size (drop 8 packet)
  pub within : p.count * p.named ≤ length lists
  pub size : length packet ≡ 8 + p.count * header.setting.size
  pub few : p.count ≤ 16
  pub draws : p.draws ≡ packet_draws header.setting.scheme header.setting.size packet
  pub small : p.draws ≤ 69360

abbrev pub RepairRead : (packet m : List ℕ) (room : ℕ) (lists : List ℕ) → Result Passed Refusal → Type 0
RepairRead packet m room lists (Ok p) = RepairPassed packet m room lists p
RepairRead packet m room lists (Err x) = Failed (repair-call packet) m room x
