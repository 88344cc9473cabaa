-- An equation's coefficients laid in a row of working memory: they stand in their columns, around the end of the window.
-- Columns: wrapped. Coefficients up to the end of the window, and around it: laid_short, laid_long. The symbol stays: laid_symbol.
use Rattle.std.specs.Prelude.{◌≡◌, ◌≤◌, ◌+◌, ◌<◌, ◌-◌, ◌%◌, ◌≢◌}
use Rattle.words.specs.Words.{arith, ℕ, List, length, refl, ◌∙◌, sym, ap, get_or, subst, mod-lt, dec_lt, mod-eq_of_lt, zero-add}
use Rattle.words.specs.Words.{replicate, length-replicate}
use native.Mathlib.Nat.{mod-eq-sub-mod}
use lib.ListN.{get_or-replicate}
use Rattle.memory.specs.Part.{part, splice}
use Rattle.memory.proofs.Parts.{length_part, length-splice, get_or-part, get_or-before, get_or-within, get_or-past}
use Rattle.table.specs.Window.{stride, row_offset, row}
use Rattle.table.specs.Packet.{Works}
use Rattle.table.proofs.Offsets.{flags_fit}
use Rattle.gather.specs.Gather.{Only, LaidIn}
use Rattle.gather.proofs.Framing.{only-splice, only_trans, only-past, row_room}

-- A column past the last is one from the first on.
pub wrapped : (w c : ℕ) → w ≤ c → c < w + w → c % w ≡ c - w
wrapped w c h l = mod-eq-sub-mod h ∙ mod-eq_of_lt (omega arith)

module _ (w E k first : ℕ) (cs work : List ℕ) (g : Works w E k work) (h : first < w) (n : length cs ≤ w) (at : ℕ) (here : at ≡ row_offset w E k) where
  room : at + stride w E ≤ length work
  room = omega (arith, row_room w E k work g)

  -- The columns filled with zero.
  abbrev blank : List ℕ
  blank = splice at (replicate w 0) work

  length_blank : length blank ≡ length work
  length_blank = length-splice at (replicate w 0) work (omega (arith, flags_fit w E, room, length-replicate {A = ℕ} w 0))

  blank_at : (j : ℕ) → j < w → get_or blank (at + j) 0 ≡ 0
  blank_at j l = get_or-within at j (replicate w 0) work (omega (arith, length-replicate {A = ℕ} w 0)) (omega (arith, room)) ∙ get_or-replicate w j 0 0 l

  only_blank : Only at (at + w) work blank
  only_blank = only-splice at (at + w) at (replicate w 0) work (omega arith) (omega (arith, length-replicate {A = ℕ} w 0)) (omega (arith, flags_fit w E, room))

  -- A byte of the row.
  cell : (m : List ℕ) (j : ℕ) → j < w → get_or (row w E k m) j 0 ≡ get_or m (at + j) 0
  cell m j l = get_or-part (row_offset w E k) (stride w E) j m (omega (arith, flags_fit w E)) ∙ ap (λ a. get_or m (a + j) 0) (sym here)

  -- Some of the coefficients, from column `c` on.
  module _ (c i s : ℕ) (m : List ℕ) (fits : i + s ≤ length cs) (size : length m ≡ length work) (inside : c + s ≤ w) where
    abbrev laid : List ℕ
    laid = splice (at + c) (part i s cs) m

    length_cut : length (part i s cs) ≡ s
    length_cut = length_part i s cs fits

    length_laid : length laid ≡ length work
    length_laid = length-splice (at + c) (part i s cs) m (omega (arith, flags_fit w E, length_cut, room)) ∙ size

    only_laid : Only at (at + w) m laid
    only_laid = only-splice at (at + w) (at + c) (part i s cs) m (omega arith) (omega (arith, length_cut)) (omega (arith, flags_fit w E, room))

    on_laid : (j : ℕ) → j < s → get_or laid (at + (c + j)) 0 ≡ get_or cs (i + j) 0
    on_laid j l =
        let e : at + (c + j) ≡ at + c + j = omega arith in
        ap (λ a. get_or laid a 0) e
        ∙ get_or-within (at + c) j (part i s cs) m (omega (arith, length_cut)) (omega (arith, flags_fit w E, room))
        ∙ get_or-part i s j cs l

    before_laid : (j : ℕ) → j < c → get_or laid (at + j) 0 ≡ get_or m (at + j) 0
    before_laid j l = get_or-before (at + j) (at + c) (part i s cs) m (omega arith) (omega (arith, flags_fit w E, room))

    past_laid : (j : ℕ) → c + s ≤ j → get_or laid (at + j) 0 ≡ get_or m (at + j) 0
    past_laid j l = get_or-past (at + j) (at + c) (part i s cs) m (omega (arith, length_cut)) (omega (arith, flags_fit w E, room))

  framed : (m : List ℕ) → Only at (at + w) work m → Only (row_offset w E k) (row_offset w E k + w) work m
  framed m f = subst (λ a. Only a (a + w) work m) here f

  -- All before the end of the window.
  laid_once : length cs ≤ w - first → LaidIn w E k first cs work (splice (at + first) (part 0 (length cs) cs) blank)
  laid_once short =
      let m = splice (at + first) (part 0 (length cs) cs) blank in
      let inside : first + length cs ≤ w = omega arith in
      let all : 0 + length cs ≤ length cs = omega arith in
      record {
        only = framed m (only_trans only_blank (only_laid first 0 (length cs) blank all length_blank inside));
        laid = record {
          on = λ i l.
              let e : (first + i) % w ≡ first + i = mod-eq_of_lt (omega arith) in
              ap (λ j. get_or (row w E k m) j 0) e
              ∙ cell m (first + i) (omega arith)
              ∙ on_laid first 0 (length cs) blank all length_blank inside i l
              ∙ ap (λ c. get_or cs c 0) (zero-add i);
          off = λ j l d. cell m j l ∙ outside m inside all refl j l d (dec_lt j first) (dec_lt j (first + length cs));
        };
      }
    where
      outside : (m : List ℕ) → first + length cs ≤ w → 0 + length cs ≤ length cs → m ≡ splice (at + first) (part 0 (length cs) cs) blank
          → (j : ℕ) → j < w → ((i : ℕ) → i < length cs → (first + i) % w ≢ j) → Dec (j < first) → Dec (j < first + length cs) → get_or m (at + j) 0 ≡ 0
      outside m inside all q j l d (yes x) y =
          ap (λ z. get_or z (at + j) 0) q ∙ before_laid first 0 (length cs) blank all length_blank inside j x ∙ blank_at j l
      outside m inside all q j l d (no x) (yes y) =
          let e : first + (j - first) ≡ j = omega arith in
          absurd (d (j - first) (omega arith) (ap (λ k. k % w) e ∙ mod-eq_of_lt l))
      outside m inside all q j l d (no x) (no y) =
          ap (λ z. get_or z (at + j) 0) q ∙ past_laid first 0 (length cs) blank all length_blank inside j (omega arith) ∙ blank_at j l

  -- As the code does it, step by step.
  pub laid_short : length cs ≤ w - first → (m₁ m₂ : List ℕ) → m₁ ≡ blank → m₂ ≡ splice (at + first) (part 0 (length cs) cs) m₁ → LaidIn w E k first cs work m₂
  laid_short short m₁ m₂ p q =
      subst (LaidIn w E k first cs work) (sym (q ∙ ap (splice (at + first) (part 0 (length cs) cs)) p)) (laid_once short)

  -- Some before the end of the window, and the others from its first column on.
  module _ (long : w - first < length cs) where
    abbrev end : ℕ
    end = w - first

    abbrev left : ℕ
    left = length cs - end

    abbrev half : List ℕ
    half = splice (at + first) (part 0 end cs) blank

    abbrev both : List ℕ
    both = splice at (part end left cs) half

    at_first : at + 0 ≡ at
    at_first = omega arith

    length_half : length half ≡ length work
    length_half = length_laid first 0 end blank (omega arith) length_blank (omega arith)

    -- `both` is the second part laid from column 0 on.
    second : (P : List ℕ → Type 0) → P (splice (at + 0) (part end left cs) half) → P both
    second P p = subst (λ a. P (splice a (part end left cs) half)) at_first p

    column : (i : ℕ) → i < length cs → Dec (i < end) → get_or both (at + (first + i) % w) 0 ≡ get_or cs i 0
    column i l (yes x) =
        let e : (first + i) % w ≡ first + i = mod-eq_of_lt (omega arith) in
        ap (λ c. get_or both (at + c) 0) e
        ∙ second (λ m. get_or m (at + (first + i)) 0 ≡ get_or half (at + (first + i)) 0)
        (past_laid 0 end left half (omega arith) length_half (omega arith) (first + i) (omega arith))
        ∙ on_laid first 0 end blank (omega arith) length_blank (omega arith) i x
        ∙ ap (λ c. get_or cs c 0) (zero-add i)
    column i l (no x) =
        let e : (first + i) % w ≡ 0 + (i - end) = wrapped w (first + i) (omega arith) (omega arith) ∙ omega arith in
        let f : end + (i - end) ≡ i = omega arith in
        ap (λ c. get_or both (at + c) 0) e
        ∙ second (λ m. get_or m (at + (0 + (i - end))) 0 ≡ get_or cs (end + (i - end)) 0)
        (on_laid 0 end left half (omega arith) length_half (omega arith) (i - end) (omega arith))
        ∙ ap (λ c. get_or cs c 0) f

    other : (j : ℕ) → j < w → ((i : ℕ) → i < length cs → (first + i) % w ≢ j) → Dec (j < first) → Dec (j < left) → get_or both (at + j) 0 ≡ 0
    other j l d (no x) y =
        let e : first + (j - first) ≡ j = omega arith in
        absurd (d (j - first) (omega arith) (ap (λ k. k % w) e ∙ mod-eq_of_lt l))
    other j l d (yes x) (yes y) =
        let e : first + (end + j) - w ≡ j = omega arith in
        absurd (d (end + j) (omega arith) (wrapped w (first + (end + j)) (omega arith) (omega arith) ∙ e))
    other j l d (yes x) (no y) =
        second (λ m. get_or m (at + j) 0 ≡ get_or half (at + j) 0) (past_laid 0 end left half (omega arith) length_half (omega arith) j (omega arith))
        ∙ before_laid first 0 end blank (omega arith) length_blank (omega arith) j x
        ∙ blank_at j l

    laid_twice : LaidIn w E k first cs work both
    laid_twice = record {
      only =
          framed both
          (only_trans (only_trans only_blank (only_laid first 0 end blank (omega arith) length_blank (omega arith)))
          (second (Only at (at + w) half) (only_laid 0 end left half (omega arith) length_half (omega arith))));
      laid = record {
        on = λ i l. cell both ((first + i) % w) (inside i) ∙ column i l (dec_lt i end);
        off = λ j l d. cell both j l ∙ other j l d (dec_lt j first) (dec_lt j left);
      };
    }
      where
        inside : (i : ℕ) → (first + i) % w < w
        inside i = mod-lt (first + i) (omega arith)

    pub laid_long : (m₁ m₂ m₃ : List ℕ) → m₁ ≡ blank → m₂ ≡ splice (at + first) (part 0 end cs) m₁ → m₃ ≡ splice at (part end left cs) m₂
        → LaidIn w E k first cs work m₃
    laid_long m₁ m₂ m₃ p q r =
        subst (LaidIn w E k first cs work)
        (sym (r ∙ ap (splice at (part end left cs)) (q ∙ ap (splice (at + first) (part 0 end cs)) p))) laid_twice

-- The symbol that the row held is still there.
pub laid_symbol : (w E k first : ℕ) (cs work work' : List ℕ) → LaidIn w E k first cs work work' → (i : ℕ) → i < E
    → get_or (row w E k work') (w + i) 0 ≡ get_or (row w E k work) (w + i) 0
laid_symbol w E k first cs work work' f i h =
    let same : (m : List ℕ) → get_or (row w E k m) (w + i) 0 ≡ get_or (part (row_offset w E k + w) E m) i 0 =
    (λ m.
    let e : row_offset w E k + (w + i) ≡ row_offset w E k + w + i = omega arith in
    get_or-part (row_offset w E k) (stride w E) (w + i) m (omega (arith, flags_fit w E)) ∙ ap (λ a. get_or m a 0) e
    ∙ sym (get_or-part (row_offset w E k + w) E i m h)) in
    same work'
    ∙ ap (λ x. get_or x i 0) (only-past (row_offset w E k) (row_offset w E k + w) (row_offset w E k + w) E work work' f.only (omega arith))
    ∙ sym (same work)
