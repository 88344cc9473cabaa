-- A piece of the input: up to the end of its first line, and line by line.
-- Index
--   text-ends: where a text ends that follows what was written
--   fed_part: the line does not end in the piece
--   fed_line: the line ends in it
--   Running: a capture that began a piece with p₀, line₀ and m₀ has come to here
--   starts
--   left: what is left of the piece
--   taken_more: some of it was taken, and no more than there is
--   runs
--   wanted: a line is to be taken
--   ends_there: nothing more is taken
--   fed: the piece was worked through
use Rattle.std.specs.Prelude.{◌≡◌, ◌≤◌, ◌+◌, ◌<◌, ◌-◌, ◌∷◌, ◌++◌, ◌&&◌}
use Rattle.words.specs.Words.{arith, ℕ, List, length, refl, ◌∙◌, sym, ap, [], suc, true, zero, false, Bool, subst, drop}
use Rattle.words.specs.Words.{take, ltb, leb, add-one, lt-ltb, append_assoc, length-drop, leb-true, append-nil, ltb-true, not, take_all}
use Rattle.words.specs.Words.{ltb-false, le-leb, drop-cons, drop-drop, drop-length, take-append-drop, length-append, length-take-le, add_assoc, ap₂}
use Rattle.std.proofs.Common.{drop_of_length-le, take-suc, take-add}
use Rattle.wire.proofs.Settings.{both}
use Rattle.lines.specs.Lines.{lines_from}
use Rattle.lines.specs.Inner.{Ends}
use Rattle.lines.proofs.Breaks.{ended, lines_go_on, front_unbroken}
use Rattle.records.specs.declared.Progress.{Progress}
use Rattle.records.specs.declared.Pass.{Pass}
use Rattle.replay.specs.declared.Ended.{Ended}
use Rattle.records.specs.Standing.{Standing, opening, closed, working, after_line, printed_line, after, printed_by, Stands, Kept}
use Rattle.records.specs.Taking.{is_final, taken_of, taken_from}
use Rattle.records.specs.Promises.{is_over, Held, GoesFrom, Fed}
use Rattle.memory.specs.Contained.{Contained}
use Rattle.answering.specs.Inner.{KeptMore}
use Rattle.replay.specs.Inner.{moved_to, Grown, LineEnded, LineFed}
use Rattle.records.proofs.Steps.{after-append, printed-append}
use Rattle.records.proofs.Taking.{only-lines, final-over, taken_none, taken_stops, taken_goes, taken-part, taken_end}
use Rattle.answering.proofs.Keeping.{kept_none}
use Rattle.replay.proofs.Ending.{moved-counts, grown_none, grown_more}

-- ---- Up to the end of a line

moved_stands : (p : Progress) (have : ℕ) (m : List ℕ) (w : Standing) → Stands p m w → Stands (moved_to p p.stage have) m w
moved_stands p have m opening k = (k.0, moved-counts p p.stage have [] k.1)
moved_stands p have m closed k = (k.0, moved-counts p p.stage have [] k.1)
moved_stands p have m (working s t rs) k =
    record { stage = k.stage; holds = k.holds; counts = moved-counts p p.stage have rs k.counts }

-- where a text ends that follows what was written
text-ends : (at next : ℕ) (out out' text : List ℕ) → at ≤ length out → next ≤ length out' → take next out' ≡ take at out ++ text → next ≡ at + length text
text-ends at next out out' text h k e =
    omega (arith, ap length e, length-append (take at out) text, length-take-le at out h, length-take-le next out' k)

module _ (p kept : Progress) (line line' m input bytes : List ℕ) (n have : ℕ) (ends : Ends input n) (b : bytes ≡ take n input)
    (more : KeptMore p.have have line line' bytes) (k : kept ≡ moved_to p p.stage have) where
  kept_held : (w : Standing) (q : List ℕ) → Held p line m w q → Held kept line' m w (q ++ take n input)
  kept_held w q h =
      subst (λ x. Held x line' m w (q ++ take n input)) (sym k)
      (record { stands = moved_stands p have m w h.stands; kept = subst (λ x. Kept have line' (q ++ x)) b (more q h.kept) })

  goes_on : (q z : List ℕ) → lines_from q (take n input ++ z) ≡ lines_from (q ++ take n input) z
  goes_on q z = lines_go_on q (take n input) (front_unbroken input n ends) z

  front_taken : (w : Standing) (q : List ℕ) (at : ℕ) → taken_of w q at input ≡ n + taken_of w (q ++ take n input) at (drop n input)
  front_taken w q at =
      ap (taken_of w q at) (sym (take-append-drop n input)) ∙ taken-part w q at (take n input) (drop n input) (front_unbroken input n ends)
      ∙ ap (λ (k : ℕ). k + taken_of w (q ++ take n input) at (drop n input)) (length-take-le n input ends.within)

  part-taken : (w : Standing) (q : List ℕ) (at : ℕ) → n ≡ length input
      → taken_of w q at input ≡ n + taken_from w (q ++ take n input) at (drop n input)
  unfolding taken_of
  part-taken w q at e =
      let d : drop n input ≡ [] = rw e (drop-length input) in
      front_taken w q at ∙ rw d (sym (ap (λ (k : ℕ). n + k) (taken_none w (q ++ take n input) at)))

  -- the line does not end in the piece
  pub fed_part : (out : List ℕ) (at : ℕ) → at ≤ length out → n ≡ length input
      → LineFed p line line' m m input out out at (record { progress = kept; taken = n; written = at })
  fed_part out at l e = record {
    taken = omega arith;
    moves = λ h. omega arith;
    room = omega arith;
    rest = grown_none at out l;
    goes = λ w q h. record {
      lines = [];
      unended = q ++ take n input;
      cut = goes_on q;
      held = kept_held w q h;
      wrote = sym (append-nil (take at out));
    };
    takes = λ w q h. part-taken w q at e;
  }

  with_end : (q z : List ℕ) → n < length input → lines_from q (take (n + 1) input ++ z) ≡ (q ++ take n input) ∷ lines_from [] z
  with_end q z h =
      let t : take (n + 1) input ≡ take n input ++ (10 ∷ []) = rw add-one (take-suc input n 0 h ∙ ap (λ (x : ℕ). take n input ++ (x ∷ [])) (ends.found h)) in
      ap (λ (x : List ℕ). lines_from q (x ++ z)) t ∙ ap (lines_from q) (append_assoc (take n input) (10 ∷ []) z)
      ∙ goes_on q (10 ∷ z) ∙ ended (q ++ take n input) z

  line_taken : (w : Standing) (q : List ℕ) (at : ℕ) → n < length input
      → let l = q ++ take n input in
      taken_of w q at input ≡ n + 1 + taken_from (after_line w l) [] (at + length (printed_line w l)) (drop (n + 1) input)
  line_taken w q at h =
      let d : drop n input ≡ 10 ∷ drop (n + 1) input = rw add-one (drop-cons input n 0 h ∙ ap (λ (x : ℕ). x ∷ drop (suc n) input) (ends.found h)) in
      front_taken w q at ∙ ap (λ (x : List ℕ). n + taken_of w (q ++ take n input) at x) d
      ∙ ap (λ (k : ℕ). n + k) (taken_end w (q ++ take n input) at (drop (n + 1) input)) ∙ sym (add_assoc n 1 _)

  -- the line ends in it
  pub fed_line : (m' out out' : List ℕ) (at : ℕ) (r : Ended) → at ≤ length out → (n ≡ length input → ⊥) → LineEnded kept line' m m' out out' at r
      → LineFed p line line' m m' input out out' at (record { progress = r.progress; taken = n + 1; written = r.at })
  fed_line m' out out' at r l e f =
      let h : n < length input = omega (arith, ends.within) in
      record {
        taken = omega arith;
        moves = λ _. omega arith;
        room = f.room;
        rest = f.rest;
        goes = λ w q g.
            let hd = kept_held w q g in
            let x = f.goes w (q ++ take n input) tt hd.stands hd.kept in
            record {
              lines = (q ++ take n input) ∷ [];
              unended = [];
              cut = λ z. with_end q z h;
              held = record { stands = x.stands; kept = subst (λ y. Kept y line' []) (sym f.have) (kept_none line') };
              wrote = x.wrote ∙ ap (λ (y : List ℕ). take at out ++ y) (sym (append-nil (printed_line w (q ++ take n input))));
            };
        takes = λ w q g.
            let hd = kept_held w q g in
            let ends_at = text-ends at r.at out out' (printed_line w (q ++ take n input)) l f.rest.within
            (f.goes w (q ++ take n input) tt hd.stands hd.kept).wrote in
            rw ends_at (line_taken w q at h);
      }

-- ---- Line by line

-- a capture that began a piece with p₀, line₀, m₀ and out₀ has come to here
pub record Running (p₀ : Progress) (line₀ m₀ input out₀ line m out : List ℕ) (p : Progress) (taken written : ℕ) : Type 0 where
  pub within : taken ≤ length input
  pub room : written ≤ 65536
  pub rest : Grown 0 written out₀ out
  pub first : taken ≡ 0 → (p ≡ p₀) × (written ≡ 0)
  pub goes : (w : Standing) (q : List ℕ) → Held p₀ line₀ m₀ w q → GoesFrom w q [] (take taken input) (take written out) p line m
  -- what is taken in all is what has been taken and what is still taken from here on
  pub takes : (w : Standing) (q : List ℕ) (h : Held p₀ line₀ m₀ w q)
      → taken_from w q 0 input ≡ taken + taken_from (after w (goes w q h).lines) (goes w q h).unended written (drop taken input)

pub starts : (p : Progress) (line m input out : List ℕ) → Running p line m input out line m out p 0 0
starts p line m input out = record {
  within = omega arith;
  room = omega arith;
  rest = grown_none 0 out (omega arith);
  first = λ _. (refl, refl);
  goes = λ w q h. record { lines = []; unended = q; cut = λ z. refl; held = h; wrote = refl };
  takes = λ w q h. omega arith;
}

-- what is left of the piece
pub left : (n : ℕ) (x : List ℕ) → take (length x - n) (drop n x) ≡ drop n x
left n x = take_all (length x - n) (drop n x) (rw length-drop (omega arith))

-- some of it was taken, and no more than there is
pub taken_more : {p : Progress} {line line' m m' out out' : List ℕ} {at : ℕ} {r : Pass} (n : ℕ) (x : List ℕ) → n < length x
    → LineFed p line line' m m' (take (length x - n) (drop n x)) out out' at r → (0 < r.taken) × (n + r.taken ≤ length x)
taken_more n x h f =
    let l : length (take (length x - n) (drop n x)) ≡ length x - n = ap length (left n x) ∙ length-drop n x in
    (f.moves (omega arith), omega (arith, f.taken))

pub runs : (p₀ : Progress) (line₀ m₀ input out₀ line line' m m' out out' : List ℕ) (p : Progress) (taken written : ℕ) (r : Pass)
    → Running p₀ line₀ m₀ input out₀ line m out p taken written → (taken < length input) × (written ≤ 65458) × (is_over p ≡ false)
    → LineFed p line line' m m' (take (length input - taken) (drop taken input)) out out' written r
    → Running p₀ line₀ m₀ input out₀ line' m' out' r.progress (taken + r.taken) r.written
runs p₀ line₀ m₀ input out₀ line line' m m' out out' p taken written r k (more, few, wants) g =
    let (moved, fits) = taken_more taken input more g in
    let f = rw (left taken input) at g in
    record {
      within = fits;
      room = omega (arith, f.room);
      rest = grown_more out₀ out out' k.rest f.rest;
      first = λ e. absurd (omega arith);
      goes = λ w q h.
          let x = k.goes w q h in
          let y = f.goes (after w x.lines) x.unended x.held in
          record {
            lines = x.lines ++ y.lines;
            unended = y.unended;
            cut = λ z.
                ap (λ (l : List ℕ). lines_from q (l ++ z)) (take-add taken r.taken input)
                ∙ ap (lines_from q) (append_assoc (take taken input) (take r.taken (drop taken input)) z)
                ∙ x.cut (take r.taken (drop taken input) ++ z) ∙ ap (λ (ls : List (List ℕ)). x.lines ++ ls) (y.cut z)
                ∙ sym (append_assoc x.lines y.lines (lines_from y.unended z));
            held = subst (λ (v : Standing). Held r.progress line' m' v y.unended) (sym (after-append w x.lines y.lines)) y.held;
            wrote = y.wrote ∙ ap (λ (l : List ℕ). l ++ printed_by (after w x.lines) y.lines) x.wrote
                ∙ sym (printed-append w x.lines y.lines);
          };
      takes = λ w q h.
          let x = k.goes w q h in
          let v = after w x.lines in
          let y = f.goes v x.unended x.held in
          let a = taken_goes v x.unended written (drop taken input)
          (rw (le-leb written 65458 few, sym (final-over p m v x.held.stands) ∙ wants)) in
          let b = f.takes v x.unended x.held in
          let c = ap₂ (λ (u : Standing) (l : List ℕ). taken_from u y.unended r.written l) (sym (after-append w x.lines y.lines))
          (drop-drop r.taken taken input) in
          k.takes w q h ∙ ap (λ (i : ℕ). taken + i) (a ∙ b ∙ ap (λ (i : ℕ). r.taken + i) c) ∙ sym (add_assoc taken r.taken _);
    }

-- a line is to be taken
pub wanted : (taken all written : ℕ) (p : Progress) (b : Bool) → b ≡ ltb taken all && (leb written 65458 && not (is_over p)) → b ≡ true
    → (taken < all) × (written ≤ 65458) × (is_over p ≡ false)
wanted taken all written p b e t =
    let (x, y) = both (ltb taken all) (leb written 65458 && not (is_over p)) (sym e ∙ t) in
    let (z, o) = both (leb written 65458) (not (is_over p)) y in
    (ltb-true taken all x, leb-true written 65458 z, closes (is_over p) o)
  where
    closes : (b : Bool) → not b ≡ true → b ≡ false
    closes true e = cc
    closes false e = refl

-- more was wanted
goes : (taken all written : ℕ) (p p₀ : Progress) → ltb taken all && (leb written 65458 && not (is_over p)) ≡ false → is_over p₀ ≡ false
    → 0 < all → (taken ≡ 0 → (p ≡ p₀) × (written ≡ 0)) → 0 < taken
goes zero all written p p₀ e o h f =
    let (a, b) = f refl in
    let g : true ≡ false = sym (rw (lt-ltb 0 all h, b, a, o)) ∙ e in
    let z : ◌≡◌ {A = ℕ} 0 1 = cc in absurd (omega arith)
goes (suc n) all written p p₀ e o h f = omega arith

-- nothing more is taken
ends_there : (taken written : ℕ) (input : List ℕ) (p : Progress) (w : Standing) (q : List ℕ) → is_over p ≡ is_final w
    → ltb taken (length input) && (leb written 65458 && not (is_over p)) ≡ false → taken_from w q written (drop taken input) ≡ 0
ends_there taken written input p w q o e = go (ltb taken (length input)) refl
  where
    go : (b : Bool) → ltb taken (length input) ≡ b → taken_from w q written (drop taken input) ≡ 0
    go true f = taken_stops w q written (drop taken input) (rw (← o) (rw f at e))
    go false f =
        ap (taken_from w q written) (drop_of_length-le input (ltb-false taken (length input) f)) ∙ taken_none w q written

-- the piece was worked through
pub fed : (p₀ : Progress) (line₀ m₀ input out₀ line m out : List ℕ) (p : Progress) (taken written : ℕ) → length out ≡ length out₀
    → Running p₀ line₀ m₀ input out₀ line m out p taken written → ltb taken (length input) && (leb written 65458 && not (is_over p)) ≡ false
    → Fed p₀ line₀ line m₀ m input out (record { progress = p; taken = taken; written = written }) × Contained written out₀ out
fed p₀ line₀ m₀ input out₀ line m out p taken written n k e = (
  record {
    taken = k.within;
    written = k.rest.within;
    moves = λ o h. goes taken (length input) written p p₀ e o h k.first;
    goes = k.goes;
    outright = λ w q h.
        let x = k.goes w q h in
        let (a, b) = only-lines q (take taken input) x.lines x.unended x.cut in
        let v = after w x.lines in
        let z = ends_there taken written input p v x.unended (final-over p m v x.held.stands) e in
        record {
          takes = omega (arith, k.takes w q h, z);
          writes = x.wrote ∙ ap (printed_by w) a;
          stands = rw (← a, ← b) x.held;
        };
  },
  record { same = n; past = k.rest.past },
)
