-- A packet's equations, admitted one after the other: what one more makes of them, and what all come to.
-- Laws:
--   memories: contained_none, contained_more, contained_from, contained_past, contained_row
--   a stored symbol: symbol_room, stored-only, works_stored, stored_is
--   one equation: equation_admitted, stored_admitted
--   all equations: firsts_same, firsts-cons, contradiction_stays, gathers_none, gathers_on, gathers_stop, gathers_all
use Rattle.std.specs.Prelude.{◌≡◌, ◌≤◌, ◌+◌, ◌<◌, ◌∷◌, ◌++◌, ◌-◌}
use Rattle.words.specs.Words.{arith, ℕ, length, List, refl, ◌∙◌, sym, ap, [], suc, zero, None, get_or, subst, ap₂, Option, Some}
use Rattle.words.specs.Words.{ℕ_discrete, drop, drop-drop, length-drop, ext_get_or, get_or-drop}
use Rattle.memory.specs.Part.{splice}
use Rattle.memory.proofs.Parts.{get_or-part, get_or-within, row_fits}
use Rattle.decoder.specs.Bytes.{Coded}
use Rattle.decoder.specs.Stretch.{symbol_cut_at}
use Rattle.decoder.proofs.Jump.{insert_all_append}
use Rattle.gather.specs.declared.Verdict.{Verdict}
use Rattle.table.specs.Window.{stride, row_offset, row, equation}
use Rattle.gather.specs.Gather.{Only, LaidIn, Admitted, Agrees, count_kept}
use Rattle.table.specs.RowSteps.{SymbolAt}
use Rattle.table.proofs.Offsets.{flags_fit}
use Rattle.gather.proofs.Framing.{only_trans, only_wider, only-splice, works_only, row_room}
use Rattle.gather.proofs.Admitting.{gathered_only, gathered_none}
use Rattle.gather.proofs.Laying.{laid_symbol}
use Rattle.gather.proofs.Spelling.{symbol_moved}
use Rattle.admission.specs.declared.packet.Location.{Location}
use Rattle.history.specs.Symbol.{symbol_of}
use Rattle.memory.specs.Contained.{Contained}
use Rattle.admission.specs.Steps.{gathered_by, Comes, WorksOn, Spells, firsts, Lies, EquationAdmitted, Admits, Gathers}
use Rattle.decoder.specs.Model as model
use Rattle.decoder.specs.Receiver as decoder
use Rattle.gather.specs.declared.Verdict.TheVariants as verdict
use Rattle.table.specs.Packet as packet

-- ---- Memories that keep their length and what lies past a size

pub contained_none : {n : ℕ} {m : List ℕ} → Contained n m m
contained_none = record { same = refl; past = refl }

pub contained_more : {n : ℕ} {m m' m'' : List ℕ} → Contained n m m' → Contained n m' m'' → Contained n m m''
contained_more f g = record { same = g.same ∙ f.same; past = g.past ∙ f.past }

pub contained_from : (n : ℕ) (m m' : List ℕ) → length m' ≡ length m → ((k : ℕ) → n ≤ k → get_or m' k 0 ≡ get_or m k 0) → Contained n m m'
contained_from n m m' e f = record {
  same = e;
  past =
      ext_get_or 0 (drop n m') (drop n m) (length-drop n m' ∙ ap (λ k. k - n) e ∙ sym (length-drop n m))
      (λ i h. get_or-drop n m' i 0 ∙ f (n + i) (omega arith) ∙ sym (get_or-drop n m i 0));
}

pub contained_past : (n : ℕ) {k : ℕ} {m m' : List ℕ} → n ≤ k → Contained n m m' → Contained k m m'
contained_past n {k} {m} {m'} h f =
    let e : n + (k - n) ≡ k = omega arith in
    record {
      same = f.same;
      past =
          ap (λ i. drop i m') (sym e) ∙ sym (drop-drop (k - n) n m') ∙ ap (drop (k - n)) f.past ∙ drop-drop (k - n) n m ∙ ap (λ i. drop i m) e;
    }

-- A change within a row of working memory.
pub contained_row : (w E k z : ℕ) (m m' : List ℕ) → k ≤ w → z ≤ row_offset w E k + stride w E → Only (row_offset w E k) z m m'
    → Contained (row_offset w E (w + 1)) m m'
contained_row w E k z m m' h l f =
    let o = only_wider z (row_offset w E (w + 1)) (omega (arith, row_fits (w + 1) (stride w E) k (omega arith))) f in
    record { same = o.size; past = o.past }

-- ---- A symbol stored in a row of working memory

-- The place of a row's symbol lies in working memory.
pub symbol_room : (w E k : ℕ) (at : ℕ) (work : List ℕ) → SymbolAt w E k at → packet.Works w E k work → at + E ≤ length work
symbol_room w E k at work start room = omega (arith, start.start, row_room w E k work room)

-- Bytes that were stored as a row's symbol are its symbol.
stored_symbol : (w E k : ℕ) (x work : List ℕ) → length x ≡ E → row_offset w E k + w ≤ length work
    → symbol_cut_at E w (row w E k (splice (row_offset w E k + w) x work)) ≡ symbol_of E x
stored_symbol w E k x work size h =
    symbol_moved E w 0 (row w E k (splice (row_offset w E k + w) x work)) x
    (λ i l.
    let e : row_offset w E k + (w + i) ≡ row_offset w E k + w + i = omega arith in
    get_or-part (row_offset w E k) (stride w E) (w + i) _ (omega (arith, flags_fit w E)) ∙ ap (λ a. get_or (splice (row_offset w E k + w) x work) a 0) e
    ∙ get_or-within (row_offset w E k + w) i x work (omega arith) h ∙ ap (λ a. get_or x a 0) (sym (zero_plus i)))
  where
    zero_plus : (i : ℕ) → 0 + i ≡ i
    zero_plus i = omega arith

module _ (w E kept : ℕ) (x work work₁ : List ℕ) (g : packet.Works w E kept work) (size : length x ≡ E)
    (stored : work₁ ≡ splice (row_offset w E kept + w) x work) where
  inside : row_offset w E kept + stride w E ≤ length work
  inside = row_room w E kept work g

  pub stored-only : Only (row_offset w E kept) (row_offset w E kept + stride w E) work work₁
  stored-only =
      subst (λ m₁. Only (row_offset w E kept) (row_offset w E kept + stride w E) work m₁) (sym stored)
      (only-splice (row_offset w E kept) (row_offset w E kept + stride w E) (row_offset w E kept + w) x work (omega arith) (omega (arith, flags_fit w E, size))
      inside)

  pub works_stored : packet.Works w E kept work₁
  works_stored = works_only (omega arith) stored-only g

  pub stored_is : symbol_cut_at E w (row w E kept work₁) ≡ symbol_of E x
  stored_is = ap (λ m₁. symbol_cut_at E w (row w E kept m₁)) stored ∙ stored_symbol w E kept x work size (omega (arith, flags_fit w E, inside))

-- ---- One equation

module _ (at : Location) (kept first : ℕ) (cs : List ℕ) (v : Verdict) (m work work₁ work' : List ℕ) where
  abbrev w : ℕ
  w = at.shape.width

  abbrev E : ℕ
  E = at.shape.size

  works_by : (v : Verdict) → packet.Works w E (count_kept kept v) work' → WorksOn w E work' (gathered_by kept v)
  works_by verdict.Kept f = f
  works_by verdict.Implied f = f
  works_by verdict.Contradiction f = tt

  comes_by : (v : Verdict) (b : ℕ) (S : model.State (Coded E) w) (es : List (model.Row (Coded E) w)) → Agrees w E b S work' kept es v
      → Comes w E b S work' es (gathered_by kept v)
  comes_by verdict.Kept b S es f = f
  comes_by verdict.Implied b S es f = f
  comes_by verdict.Contradiction b S es f = f

  pub equation_admitted : packet.Works w E kept work → LaidIn w E kept first cs work work₁
      → Admitted w E at.shape.oldest at.stay kept first (length cs) v m work₁ work'
      → EquationAdmitted at kept first cs (gathered_by kept v) m work work'
  equation_admitted g l a = record {
    contained =
        contained_row w E kept (row_offset w E kept + (w + E + 1)) work work' g.within (omega (arith, flags_fit w E))
        (only_trans (only_wider (row_offset w E kept + w) (row_offset w E kept + (w + E + 1)) (omega arith) l.only) a.only);
    works = works_by v a.works;
    outcome = λ b d S es e lies held reduced spells gathered.
        let pos : 0 < E = omega (arith, g.some_symbol) in
        let q : ℕ = b + at.rise in
        let before = gathered_only w E q kept (row_offset w E kept + w) (decoder.advance_by at.rise S) work work₁ es pos l.only
        (omega (arith, flags_fit w E)) gathered in
        let same = symbol_moved E w w (row w E kept work₁) (row w E kept work) (laid_symbol w E kept first cs work work₁ l) in
        let is : equation w E q (row w E kept work₁) ≡ e = spells (row w E kept work₁) l.laid same in
        comes_by v q (decoder.advance_by at.rise S) (es ++ (e ∷ []))
        (subst (λ x. Agrees w E q (decoder.advance_by at.rise S) work' kept (es ++ (x ∷ [])) v) is
        (a.outcome b at.rise d S es lies.base lies.stay lies.column (omega (arith, lies.some, lies.room)) lies.room held reduced
        l.laid.off before));
  }

-- An equation e of a packet of n positions from the d-th of the window on, whose symbol x was stored in the row before, and whose coefficients
-- `cs` are of the positions from the `to d`-th on.
pub stored_admitted : (at : Location) (kept first n : ℕ) (cs x m work work₁ work' : List ℕ) (r : Option ℕ)
    (e : ℕ → model.Row (Coded at.shape.size) at.shape.width) (to : ℕ → ℕ)
    → packet.Works at.shape.width at.shape.size kept work → length x ≡ at.shape.size
    → work₁ ≡ splice (row_offset at.shape.width at.shape.size kept + at.shape.width) x work → EquationAdmitted at kept first cs r m work₁ work'
    → ((b d : ℕ) → Lies at at.first n b d
    → Lies at first (length cs) b (to d) × Spells at.shape.width at.shape.size (b + at.rise) first cs (symbol_of at.shape.size x) (e d))
    → Admits at n e kept r m work work'
stored_admitted at kept first n cs x m work work₁ work' r e to g size stored a spelt =
    let w : ℕ = at.shape.width in
    let E : ℕ = at.shape.size in
    let only = stored-only w E kept x work work₁ g size stored in
    record {
      contained = contained_more (contained_row w E kept (row_offset w E kept + stride w E) work work₁ g.within (omega arith) only) a.contained;
      works = a.works;
      outcome = λ b d S es lies held reduced gathered.
          let (l, s) = spelt b d lies in
          a.outcome b (to d) S es (e d) l held reduced (λ t laid v. s t laid (v ∙ stored_is w E kept x work work₁ g size stored))
          (gathered_only w E (b + at.rise) kept (row_offset w E kept + stride w E) (decoder.advance_by at.rise S) work work₁ es
          (omega (arith, g.some_symbol)) only (omega arith) gathered);
    }

-- ---- All equations

pub firsts_same : {A : Type 0} (g h : ℕ → A) (n : ℕ) → ((k : ℕ) → k < n → g k ≡ h k) → firsts g n ≡ firsts h n
unfolding firsts
firsts_same g h zero e = refl
firsts_same g h (suc n) e = ap₂ (λ l x. l ++ (x ∷ [])) (firsts_same g h n (λ k l. e k (omega arith))) (e n (omega arith))

pub firsts-cons : {A : Type 0} (g : ℕ → A) (n : ℕ) → firsts g (suc n) ≡ g 0 ∷ firsts (λ k. g (suc k)) n
unfolding firsts
firsts-cons g zero = refl
firsts-cons g (suc n) = ap (λ l. l ++ (g (suc n) ∷ [])) (firsts-cons g n)

-- A contradiction stays one.
pub contradiction_stays : (w E : ℕ) (S : model.State (Coded E) w) (g : ℕ → model.Row (Coded E) w) (i n : ℕ) → i ≤ n
    → decoder.insert_all (firsts g i) S ≡ None → decoder.insert_all (firsts g n) S ≡ None
unfolding firsts
contradiction_stays w E S g i zero h e =
    let z : i ≡ 0 = omega arith in
    subst (λ k. decoder.insert_all (firsts g k) S ≡ None) z e
contradiction_stays w E S g i (suc n) h e = go (ℕ_discrete i (suc n)) (λ l. contradiction_stays w E S g i n l e)
  where
    go : Dec (i ≡ suc n) → (i ≤ n → decoder.insert_all (firsts g n) S ≡ None) → decoder.insert_all (firsts g (suc n)) S ≡ None
    go (yes q) ih = subst (λ k. decoder.insert_all (firsts g k) S ≡ None) q e
    go (no q) ih = insert_all_append (firsts g n) (g n ∷ []) S ∙ ap (λ o. decoder.and_then o (λ T. decoder.insert_all (g n ∷ []) T)) (ih (omega arith))

module _ (at : Location) (n : ℕ) (g : ℕ → ℕ → model.Row (Coded at.shape.size) at.shape.width) (m work : List ℕ) where
  pub gathers_none : packet.Works at.shape.width at.shape.size 0 work → Gathers at n g 0 (Some 0) m work work
  unfolding firsts
  gathers_none f = record {
    contained = contained_none;
    works = f;
    outcome = λ b d S lies held reduced. gathered_none _ _ _ _ work (omega (arith, f.some_symbol));
  }

  -- One turn, by the answer about the i-th equation.
  gathers_more : (i kept : ℕ) (r : Option ℕ) (work₁ work₂ : List ℕ) → Gathers at n g i (Some kept) m work work₁
      → Admits at n (λ d. g d i) kept r m work₁ work₂ → Gathers at n g (i + 1) r m work work₂
  unfolding firsts
  gathers_more i kept r work₁ work₂ f a = record {
    contained = contained_more f.contained a.contained;
    works = a.works;
    outcome = λ b d S lies held reduced.
        let e : suc i ≡ i + 1 = omega arith in
        subst (λ k. Comes at.shape.width at.shape.size (b + at.rise) (decoder.advance_by at.rise S) work₂ (firsts (g d) k) r) e
        (a.outcome b d S (firsts (g d) i) lies held reduced (f.outcome b d S lies held reduced));
  }

  stops : (i k : ℕ) (work₁ : List ℕ) → i ≤ k → Gathers at n g i None m work work₁ → Gathers at n g k None m work work₁
  stops i k work₁ h f = record {
    contained = f.contained;
    works = tt;
    outcome = λ b d S lies held reduced.
        contradiction_stays at.shape.width at.shape.size (decoder.advance_by at.rise S) (g d) i k h (f.outcome b d S lies held reduced);
  }

  -- The loop goes on where the equation is not refused, and ends where it is.
  pub gathers_on : (i kept kept' : ℕ) (r : Option ℕ) (work₁ work₂ : List ℕ) → Gathers at n g i (Some kept) m work work₁
      → Admits at n (λ d. g d i) kept r m work₁ work₂ → r ≡ Some kept' → Gathers at n g (i + 1) (Some kept') m work work₂
  gathers_on i kept kept' r work₁ work₂ f a e = subst (λ x. Gathers at n g (i + 1) x m work work₂) e (gathers_more i kept r work₁ work₂ f a)

  pub gathers_stop : (i k kept : ℕ) (r : Option ℕ) (work₁ work₂ : List ℕ) → i < k → Gathers at n g i (Some kept) m work work₁
      → Admits at n (λ d. g d i) kept r m work₁ work₂ → r ≡ None → Gathers at n g k None m work work₂
  gathers_stop i k kept r work₁ work₂ h f a e =
      stops (i + 1) k work₂ (omega arith) (subst (λ x. Gathers at n g (i + 1) x m work work₂) e (gathers_more i kept r work₁ work₂ f a))

  pub gathers_all : (i k kept : ℕ) (work₁ : List ℕ) → i ≡ k → Gathers at n g i (Some kept) m work work₁ → Gathers at n g k (Some kept) m work work₁
  gathers_all i k kept work₁ e f = subst (λ j. Gathers at n g j (Some kept) m work work₁) e f
