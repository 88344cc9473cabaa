-- A source packet's equations: a row with the coefficient one at the symbol's position spells the model's equation, and all are the model's packet.
use Rattle.std.specs.Prelude.{◌≡◌, ◌+◌, ◌<◌, ◌-◌, ◌%◌, ◌∷◌}
use Rattle.words.specs.Words.{arith, ℕ, length, List, refl, ◌∙◌, sym, ap, [], suc, zero, get_or, map, ap₂, mod-add-mod, Option}
use Rattle.memory.specs.Part.{splice}
use Rattle.wire.specs.Packets.{symbol_count, symbol_at, source_symbols}
use Rattle.decoder.specs.Bytes.{Coded}
use Rattle.table.specs.Window.{row_offset}
use Rattle.table.specs.RowSteps.{RowOf}
use Rattle.gather.proofs.Spelling.{spells_one}
use Rattle.admission.specs.declared.packet.Location.{Location}
use Rattle.history.specs.Symbol.{Symbol, symbol_of}
use Rattle.history.specs.History.{source}
use Rattle.history.specs.Model.{packet_of}
use Rattle.admission.specs.Steps.{firsts, Lies, EquationAdmitted, Admits}
use Rattle.admission.specs.SourceSteps.{equation_of}
use Rattle.admission.proofs.Gathering.{stored_admitted, firsts_same, firsts-cons}
use Rattle.wire.proofs.Adui as adui
use Rattle.decoder.specs.Model as model
use Rattle.decoder.specs.Receiver as decoder
use Rattle.decoder.specs.Packets as packets
use Rattle.table.specs.Packet as packet

-- ---- One symbol

pub length_symbol : (flow : ℕ) (adu : List ℕ) (E i : ℕ) → 0 < E → i < symbol_count E (length adu) → length (symbol_at flow adu E i) ≡ E
length_symbol flow adu E i pos h = ap length (sym (adui.symbol_at_lem flow adu E i h)) ∙ adui.symbol_length flow adu E pos i h

module _ (at : Location) (kept flow i r : ℕ) (adu m work work₁ work' : List ℕ) (answer : Option ℕ) where
  abbrev w : ℕ
  w = at.shape.width

  abbrev E : ℕ
  E = at.shape.size

  abbrev n : ℕ
  n = symbol_count E (length adu)

  -- The row of the symbol's position.
  column : (b d : ℕ) → RowOf w at.first i r → Lies at at.first n b d → (b + at.rise + (d + i)) % w ≡ r
  column b d f l =
      let e : b + at.rise + (d + i) ≡ b + at.rise + d + i = omega arith in
      ap (λ k. k % w) e ∙ sym (mod-add-mod (b + at.rise + d) w i) ∙ ap (λ k. (k + i) % w) l.column ∙ sym f.is

  pub symbol_admitted : packet.Works w E kept work → i < n → RowOf w at.first i r
      → work₁ ≡ splice (row_offset w E kept + w) (symbol_at flow adu E i) work
      → EquationAdmitted at kept r (1 ∷ []) answer m work₁ work'
      → Admits at n (λ d. equation_of w E flow adu d i) kept answer m work work'
  symbol_admitted g h f stored a =
      let pos : 0 < E = omega (arith, g.some_symbol) in
      stored_admitted at kept r n (1 ∷ []) (symbol_at flow adu E i) m work work₁ work' answer (λ d. equation_of w E flow adu d i) (λ d. d + i) g
      (length_symbol flow adu E i pos h) stored a
      (λ b d l.
      let here = column b d f l in (
        record { base = l.base; stay = l.stay; column = here; some = omega arith; room = omega (arith, l.room) },
        λ t laid e.
            spells_one w E r t (omega (arith, g.some_width)) pos laid (b + at.rise) d n i here h l.room
            ∙ ap (λ (y : Symbol E). decoder.embed (Coded E) w d n (packets.row (Coded E) n (packets.only (Coded E) i) y)) e,
      ))

-- ---- All symbols

module _ (E w d n : ℕ) (s : ℕ → Symbol E) where
  abbrev one : ℕ → model.Row (Coded E) w
  one i = decoder.embed (Coded E) w d n (packets.row (Coded E) n (packets.only (Coded E) i) (s i))

  rows-firsts : (m i : ℕ) → map (decoder.embed (Coded E) w d n) (packets.source_rows (Coded E) n m i s) ≡ firsts (λ k. one (i + k)) m
  unfolding packets.source_rows firsts
  rows-firsts zero i = refl
  rows-firsts (suc m) i =
      let z : i ≡ i + 0 = omega arith in
      ap₂ (λ (x : model.Row (Coded E) w) (l : List (model.Row (Coded E) w)). x ∷ l) (ap one z)
      (rows-firsts m (suc i)
      ∙ firsts_same _ _ m
      (λ k l.
      let e : suc i + k ≡ i + suc k = omega arith in
      ap one e))
      ∙ sym (firsts-cons (λ k. one (i + k)) m)

-- The packet's equations are the model's.
pub source_equations : (w E b d flow : ℕ) (adu : List ℕ)
    → decoder.over (Coded E) w b (packet_of E (source (b + d) (source_symbols flow adu E))) ≡ firsts (equation_of w E flow adu d) (symbol_count E (length adu))
unfolding packets.source
source_equations w E b d flow adu =
    let vs : List (List ℕ) = source_symbols flow adu E in
    let s : ℕ → Symbol E = λ i. symbol_of E (get_or vs i []) in
    let x : b + d - b ≡ d = omega arith in
    rows-firsts E w (b + d - b) (length vs) s (length vs) 0
    ∙ ap₂ (λ (d n : ℕ). firsts (λ k. one E w d n s (0 + k)) n) x (adui.symbols_count flow adu E)
    ∙ firsts_same (λ k. one E w d (symbol_count E (length adu)) s (0 + k)) (equation_of w E flow adu d) (symbol_count E (length adu))
    (λ k h.
    let z : 0 + k ≡ k = omega arith in
    ap (one E w d (symbol_count E (length adu)) s) z
    ∙ ap (λ (v : List ℕ). decoder.embed (Coded E) w d (symbol_count E (length adu))
    (packets.row (Coded E) (symbol_count E (length adu)) (packets.only (Coded E) k) (symbol_of E v))) (adui.symbol_at_lem flow adu E k h))
