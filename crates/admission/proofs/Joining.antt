-- The header for a packet: with a base it is the receiver's own, and without one the packet's first ESI is the base.
use Rattle.std.specs.Prelude.{◌≡◌, ◌<◌, ◌%◌}
use Rattle.words.specs.Words.{arith, ℕ, List, ap, Some, true, None, false, Bool, cond, mod-lt}
use Rattle.wire.specs.declared.Setting.{Setting}
use Rattle.wire.specs.Settings.{Valid}
use Rattle.decoder.proofs.Bytes.{laws}
use Rattle.table.specs.Window.{Fits}
use Rattle.history.specs.Model.{State, found_by, Origins}
use Rattle.holding.specs.declared.Header.{Header}
use Rattle.holding.specs.Header.{header_in}
use Rattle.holding.specs.Layout.{header_from, Stands, Holds, Hears}
use Rattle.admission.specs.Joining.{header_for, Based}
use Rattle.holding.proofs.Headers.{headed, setting_fits, header_held}
use Rattle.decoder.proofs.History as history
use Rattle.origins.specs.Origins as origins

-- The memory has the setting and the room of the header for a packet.
pub based : (m : List ℕ) (h : Header) (e : ℕ) → header_in m ≡ Some h → Based m (header_for h e)
based m h e k =
    let g = headed m h k in
    record { setting = g.setting; valid = g.valid; room = g.room; row_lt = row h.joined g.row_lt g.valid }
  where
    row : (t : Bool) → h.oldest < h.setting.width → Valid h.setting → cond t h.oldest (e % h.setting.width) < h.setting.width
    row true l v = l
    row false l v = mod-lt e (omega (arith, v.width_least))

pub based_fits : (m : List ℕ) (h : Header) → Based m h → Fits h.setting.width h.setting.size m
based_fits m h k = setting_fits h.setting m k.valid k.room

-- For a packet whose first ESI is e, the header is that of the receiver as the packet finds it, whose rows the memory has.
pub found-header : (m : List ℕ) (h : Header) (s : Setting) (t : State s) (e : ℕ) → header_in m ≡ Some h → Holds m s t
    → header_for h e ≡ header_from s (found_by s t e)
found-header m h s None e k d = ap (λ (x : Header). header_for x e) (header_held m h s None k d)
found-header m h s (Some t) e k d = ap (λ (x : Header). header_for x e) (header_held m h s (Some t) k d)

pub found_stands : (m : List ℕ) (s : Setting) (t : State s) (e : ℕ) → 0 < s.size → Holds m s t → Stands m s (found_by s t e)
found_stands m s None e z d = record { reduced = history.empty_rref (laws s.size z) s.width; rows = d.rows e }
found_stands m s (Some t) e z d = d.rows

-- And what it says is heard.
pub found_hears : (m : List ℕ) (s : Setting) (t : State s) (e : ℕ) (H : Origins) → Hears m s t H
    → origins.Hears s.width s.size (found_by s t e).base m H
found_hears m s None e H k = k e
found_hears m s (Some t) e H k = k
