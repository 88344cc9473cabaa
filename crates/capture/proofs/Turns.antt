-- Calls of `feed` one after the other: one call more.
use Rattle.std.specs.Prelude.{◌≡◌, ◌≤◌, ◌+◌, ◌<◌, ◌-◌, ◌∷◌, ◌++◌}
use Rattle.words.specs.Words.{arith, ℕ, List, length, refl, ◌∙◌, sym, ap, [], true, false, Bool, subst, drop, take, inr}
use Rattle.words.specs.Words.{inl, append_assoc, length-drop, append-nil, not, take-append-drop, drop-drop, drop-length}
use Rattle.records.specs.declared.Progress.{Progress}
use Rattle.records.specs.declared.Pass.{Pass}
use Rattle.records.specs.Promises.{is_over, Fed}
use Rattle.records.specs.Pieces.{Piece, taken, InTurn, reached, line_left, memory_left}
use Rattle.replay.proofs.Feeding.{left}
use Rattle.capture.specs.Going.{Handed, Through}

module _ (x : Piece) where
  turn_more : (xs : List Piece) (p : Progress) (line m : List ℕ) → InTurn p line m xs
      → Fed (reached p xs) (line_left line xs) x.line (memory_left m xs) x.memory x.input x.output x.pass → InTurn p line m (xs ++ (x ∷ []))
  turn_more [] p line m t f = (f, tt)
  turn_more (y ∷ ys) p line m t f = (t.0, turn_more ys y.pass.progress y.line y.memory t.1 f)

  reached-more : (xs : List Piece) (p : Progress) → reached p (xs ++ (x ∷ [])) ≡ x.pass.progress
  reached-more [] p = refl
  reached-more (y ∷ ys) p = reached-more ys y.pass.progress

  line-more : (xs : List Piece) (line : List ℕ) → line_left line (xs ++ (x ∷ [])) ≡ x.line
  line-more [] line = refl
  line-more (y ∷ ys) line = line-more ys y.line

  memory_more : (xs : List Piece) (m : List ℕ) → memory_left m (xs ++ (x ∷ [])) ≡ x.memory
  memory_more [] m = refl
  memory_more (y ∷ ys) m = memory_more ys y.memory

  taken_more : (xs : List Piece) → taken (xs ++ (x ∷ [])) ≡ taken xs ++ take x.pass.taken x.input
  taken_more [] = append-nil (take x.pass.taken x.input)
  taken_more (y ∷ ys) =
      ap (λ (l : List ℕ). take y.pass.taken y.input ++ l) (taken_more ys)
      ∙ sym (append_assoc (take y.pass.taken y.input) (taken ys) (take x.pass.taken x.input))

-- one call more, with what is left
pub handed-more : (p : Progress) (line m input : List ℕ) (p' : Progress) (line' line'' m' m'' left out : List ℕ) (r : Pass)
    → Handed p line m input p' line' m' left → Fed p' line' line'' m' m'' left out r
    → Handed p line m input r.progress line'' m'' (drop r.taken left)
handed-more p line m input p' line' line'' m' m'' left out r h f =
    let x : Piece = record { input = left; pass = r; output = out; line = line''; memory = m'' } in
    let xs = h.pieces in
    record {
      pieces = xs ++ (x ∷ []);
      turns = turn_more x xs p line m h.turns (rw (h.progress, h.line-is, h.memory_is) f);
      progress = reached-more x xs p;
      line-is = line-more x xs line;
      memory_is = memory_more x xs m;
      input_is =
          h.input_is ∙ ap (λ (l : List ℕ). taken xs ++ l) (sym (take-append-drop r.taken left))
          ∙ sym (append_assoc (taken xs) (take r.taken left) (drop r.taken left))
          ∙ ap (λ (l : List ℕ). l ++ drop r.taken left) (sym (taken_more x xs));
    }

-- ---- The loop

-- a call with the rest of the input from n on
pub next_handed : (p : Progress) (line m input : List ℕ) (p' : Progress) (line' line'' m' m'' out : List ℕ) (n : ℕ) (r : Pass)
    → Handed p line m input p' line' m' (drop n input) → Fed p' line' line'' m' m'' (take (length input - n) (drop n input)) out r
    → Handed p line m input r.progress line'' m'' (drop (n + r.taken) input)
next_handed p line m input p' line' line'' m' m'' out n r h f =
    subst (Handed p line m input r.progress line'' m'') (drop-drop r.taken n input)
    (handed-more p line m input p' line' line'' m' m'' (drop n input) out r h (rw (left n input) at f))

-- some of it is taken as long as more is wanted, and no more than there is
pub next_moves : {p : Progress} {line line' m m' out : List ℕ} {r : Pass} (n : ℕ) (input : List ℕ) → n < length input → is_over p ≡ false
    → Fed p line line' m m' (take (length input - n) (drop n input)) out r → (0 < r.taken) × (n + r.taken ≤ length input)
next_moves n input h o f =
    let l : length (take (length input - n) (drop n input)) ≡ length input - n = ap length (left n input) ∙ length-drop n input in
    (f.moves o (omega arith), omega (arith, f.taken))

-- no more is wanted, or all was taken
pub went_over : (p : Progress) (line line' m m' input : List ℕ) (p' : Progress) (b : Bool) (rest : List ℕ) → Handed p line m input p' line' m' rest
    → b ≡ not (is_over p') → is_over p' ≡ true → Through p line line' m m' input (record { progress = p'; more = b })
went_over p line line' m m' input p' b rest h e o = record { more = e; left = rest; handed = h; all = inr o }

pub went_all : (p : Progress) (line line' m m' input : List ℕ) (p' : Progress) (b : Bool) (n : ℕ) → Handed p line m input p' line' m' (drop n input)
    → b ≡ not (is_over p') → n ≤ length input → length input ≤ n → Through p line line' m m' input (record { progress = p'; more = b })
went_all p line line' m m' input p' b n h e k l =
    let same : n ≡ length input = omega arith in
    record { more = e; left = drop n input; handed = h; all = inl (rw same (drop-length input)) }
