-- A repair packet's equations: a row with its coefficients and its symbol spells the model's equation, and all are the model's packet.
use Rattle.std.specs.Prelude.{◌≡◌, ◌+◌, ◌-◌, ◌∷◌, ◌*◌}
use Rattle.words.specs.Words.{arith, ℕ, length, List, refl, ◌∙◌, sym, ap, [], get_or, drop, ap₂, Option}
use Rattle.memory.specs.Part.{part, splice}
use Rattle.memory.proofs.Parts.{part-drop}
use Rattle.wire.specs.Packets.{chunks}
use Rattle.wire.proofs.Adui.{length-chunks, get_or-chunks}
use Rattle.decoder.specs.Bytes.{byte, Coded}
use Rattle.decoder.specs.Model.{Row}
use Rattle.decoder.specs.Receiver.{embed, over}
use Rattle.table.specs.Window.{row_offset}
use Rattle.table.specs.Packet.{Works}
use Rattle.gather.proofs.Spelling.{spells}
use Rattle.admission.specs.declared.packet.Location.{Location}
use Rattle.history.specs.Symbol.{Symbol}
use Rattle.history.specs.History.{repair}
use Rattle.history.specs.Model.{packet_of}
use Rattle.admission.specs.Steps.{firsts, EquationAdmitted, Admits}
use Rattle.admission.specs.RepairSteps.{repair_equation, equation_at}
use Rattle.admission.proofs.Gathering.{stored_admitted, firsts_same, firsts-cons}
use Rattle.decoder.specs.Packets as packets

-- ---- One symbol

module _ (at : Location) (kept : ℕ) (list symbol m work work₁ work' : List ℕ) (r : Option ℕ) where
  abbrev w : ℕ
  w = at.shape.width

  abbrev E : ℕ
  E = at.shape.size

  pub symbol_admitted : Works w E kept work → length symbol ≡ E → work₁ ≡ splice (row_offset w E kept + w) symbol work
      → EquationAdmitted at kept at.first list r m work₁ work'
      → Admits at (length list) (repair_equation w E (length list) list symbol) kept r m work work'
  symbol_admitted g size stored a =
      stored_admitted at kept at.first (length list) list symbol m work work₁ work' r (repair_equation w E (length list) list symbol) (λ d. d) g size stored a
      (λ b d l. (
        l,
        λ t laid e.
            spells w E at.first list t g.some_width (omega (arith, g.some_symbol)) laid (b + at.rise) d l.column l.room
            ∙ ap (λ (y : Symbol E). embed (Coded E) w d (length list) (packets.row (Coded E) (length list) (λ j. byte (get_or list j 0)) y)) e,
      ))

-- Of the list and the symbol that the code lends.
pub symbol_of_index : (at : Location) (kept n i : ℕ) (list lists bytes m work work' : List ℕ) (r : Option ℕ) → list ≡ part (i * n) n lists → length list ≡ n
    → Admits at (length list)
    (repair_equation at.shape.width at.shape.size (length list) list (part (8 + i * at.shape.size) at.shape.size bytes)) kept r m work work'
    → Admits at n (λ d. equation_at at.shape.width at.shape.size n lists bytes d i) kept r m work work'
symbol_of_index at kept n i list lists bytes m work work' r e l a = rw (l, e) at a

-- ---- All symbols

module _ (w E b d n : ℕ) where
  rows-firsts : (cs vs : List (List ℕ)) → length cs ≡ length vs
      → over (Coded E) w b (packet_of E (repair (b + d) n cs vs)) ≡ firsts (λ k. repair_equation w E n (get_or cs k []) (get_or vs k []) d) (length vs)
  unfolding packets.repair firsts
  rows-firsts [] [] l = refl
  rows-firsts [] (v ∷ vs) l = absurd (omega arith)
  rows-firsts (c ∷ cs) [] l = absurd (omega arith)
  rows-firsts (c ∷ cs) (v ∷ vs) l =
      let x : b + d - b ≡ d = omega arith in
      ap₂ (λ (y : Row (Coded E) w) (ys : List (Row (Coded E) w)). y ∷ ys) (ap (repair_equation w E n c v) x) (rows-firsts cs vs (omega arith))
      ∙ sym (firsts-cons (λ k. repair_equation w E n (get_or (c ∷ cs) k []) (get_or (v ∷ vs) k []) d) (length vs))

  -- The packet's equations are the model's.
  pub repair_equations : (count : ℕ) (lists bytes : List ℕ)
      → over (Coded E) w b (packet_of E (repair (b + d) n (chunks count n lists) (chunks count E (drop 8 bytes)))) ≡ firsts
      (equation_at w E n lists bytes d) count
  repair_equations count lists bytes =
      let cs = chunks count n lists in
      let vs = chunks count E (drop 8 bytes) in
      let k = length-chunks count E (drop 8 bytes) in
      rows-firsts cs vs (length-chunks count n lists ∙ sym k)
      ∙ ap (firsts (λ i. repair_equation w E n (get_or cs i []) (get_or vs i []) d)) k
      ∙ firsts_same (λ i. repair_equation w E n (get_or cs i []) (get_or vs i []) d) (equation_at w E n lists bytes d) count
      (λ i h.
      ap₂ (λ c v. repair_equation w E n c v d) (get_or-chunks count n lists i h)
      (get_or-chunks count E (drop 8 bytes) i h ∙ sym (part-drop 8 (i * E) E bytes)))
