-- The claims: what is promised is that each symbol goes to its place, and what can be concluded from that.
use Rattle.std.specs.Prelude.{◌≡◌, ◌≤◌, ◌+◌, ◌<◌, ◌*◌, Result}
use Rattle.words.specs.Words.{arith, ℕ, List, length, refl, ◌∙◌, sym, ap, take, length-take-le, take-append-drop, zero-add, ap₂}
use Rattle.memory.specs.Part.{part, splice}
use Rattle.memory.proofs.Parts.{length-splice, past-splice, part-within, part-part, whole, row_fits}
use Rattle.wire.specs.Answers.{Said, value, refusal, said}
use Rattle.interleave.specs.Grid.{symbols_from, answer_to, output_after}
use Rattle.interleave.specs.Promises.{Rearranges}
use Rattle.interleave.specs.Claims.{SizeAllowed, IsGrid, Refuses, Moves, Judged, Sent, PutBack, Undone}
use Rattle.interleave.proofs.Symbols.{symbols_same, symbols-length, symbols-part}
use Rattle.interleave.proofs.Places.{Places, taken_places, sent_places}
use Rattle.interleave.proofs.Answers.{told_apart, said_size, said-grid, said_short, said-bytes, Tested, no_size, no_grid, no_room, all_pass, tested}
use Rattle.wire.specs.declared.Refusal.{Refusal}

-- A grid whose symbols go from their places in one order to their places in another: f are the places in the input, t those in the output.
module _ (E D L : ℕ) {from to : (r c : ℕ) → ℕ} {row column row' column' : (p : ℕ) → ℕ}
    (f : Places D L from row column) (t : Places D L to row' column') where
  -- the symbol that goes to a place, by its place in the input
  abbrev order : (p : ℕ) → ℕ
  order p = from (row' p) (column' p)

  module _ (src out : List ℕ) (a : Result ℕ Refusal) (out' : List ℕ) where
    -- the bytes that are promised
    abbrev x : List ℕ
    x = symbols_from E src order (D * L)

    abbrev answer : Said
    answer = answer_to E D L (length src) (length out)

    module _ (g : length src ≡ D * L * E) where
      fits : (p : ℕ) → p < D * L → order p * E + E ≤ length src
      fits p h = omega (arith, row_fits (D * L) E (order p) (f.inside (row' p) (column' p) (t.row_within p h) (t.column_within p h)))

      x_length : length x ≡ D * L * E
      x_length = symbols-length E src order (D * L) fits (D * L) (omega arith)

      symbol : (r c : ℕ) → r < D → c < L → part (to r c * E) E x ≡ part (from r c * E) E src
      symbol r c h k =
          symbols-part E src order (D * L) fits (D * L) (to r c) (omega arith) (t.inside r c h k)
          ∙ ap₂ (λ i j. part (from i j * E) E src) (t.row_of r c h k) (t.column_of r c h k)

    -- ---- what is promised is what is claimed

    moved : IsGrid E D L (length src) → length src ≤ length out → said a ≡ value (length src) → out' ≡ splice 0 x out
        → Moves E D L from to src out (said a) out'
    moved g h e o =
        let l = x_length g.4 in
        record {
          answer = e ∙ ap value g.4;
          past = record {
            same = rw o (length-splice 0 x out (omega (arith, l)));
            past = rw o (past-splice (D * L * E) 0 x out (omega (arith, l)) (omega arith));
          };
          symbols = λ r c i j.
              let b : to r c * E + E ≤ length x = omega (arith, row_fits (D * L) E (to r c) (t.inside r c i j), l) in
              rw o ((rw zero-add at (part-within 0 (to r c * E) E x out b (omega arith))) ∙ symbol g.4 r c i j);
        }

    pub judged : Rearranges E D L x src out a out' → Judged E D L from to src out (said a) out'
    judged w = record {
      size = λ n. refuse 1 (said_size E D L (length src) (length out) n);
      grid = λ s n. refuse 17 (said-grid E D L (length src) (length out) s n);
      short = λ s g h. refuse 2 (said_short E D L (length src) (length out) s g h);
      moves = λ s g h. let e = said-bytes E D L (length src) (length out) s g h in moved g h (w.answer ∙ e) (w.output ∙ after e);
    }
      where
        after : {b : Said} → answer ≡ b → output_after (said a) x out ≡ output_after b x out
        after e = ap (λ b. output_after b x out) (w.answer ∙ e)

        refuse : (n : ℕ) → answer ≡ refusal n → Refuses n out (said a) out'
        refuse n e = record { answer = w.answer ∙ e; output = w.output ∙ after e }

    -- ---- and nothing else is claimed

    all : length src ≡ D * L * E → Moves E D L from to src out (said a) out' → out' ≡ splice 0 x out
    unfolding part splice
    all g m =
        let each : (p : ℕ) → p < D * L → part (p * E) E out' ≡ part (order p * E) E src =
        λ p h. rw (t.there p h) at (m.symbols (row' p) (column' p) (t.row_within p h) (t.column_within p h)) in
        let e : x ≡ take (D * L * E) out' = symbols_same E src order out' (D * L) each in
        sym (take-append-drop (D * L * E) out') ∙ cc (e, m.past.past, x_length g)

    pub promised : Judged E D L from to src out (said a) out' → Rearranges E D L x src out a out'
    promised j = go (tested E D L (length src) (length out))
      where
        refused : (n : ℕ) → answer ≡ refusal n → Refuses n out (said a) out' → Rearranges E D L x src out a out'
        refused n e r = record { answer = r.answer ∙ sym e; output = rw r.answer r.output }

        go : Tested E D L (length src) (length out) → Rearranges E D L x src out a out'
        go (no_size n) = refused 1 (said_size E D L (length src) (length out) n) (j.size n)
        go (no_grid s n) = refused 17 (said-grid E D L (length src) (length out) s n) (j.grid s n)
        go (no_room s g h) = refused 2 (said_short E D L (length src) (length out) s g h) (j.short s g h)
        go (all_pass s g h) =
            let m = j.moves s g h in
            record {
              answer = m.answer ∙ ap value (sym g.4) ∙ sym (said-bytes E D L (length src) (length out) s g h);
              output = rw m.answer (all g.4 m);
            }

  -- ---- what has gone from one order to the other and back is as it was

  pub undo : (n : ℕ) (src out out' back back' : List ℕ) (a b : Said) → Judged E D L from to src out a out' → a ≡ value n
      → Judged E D L to from (take n out') back b back' → n ≤ length back → (b ≡ value n) × (take n back' ≡ src)
  unfolding part
  undo n src out out' back back' a b first e second room = go (tested E D L (length src) (length out))
    where
      again : SizeAllowed E → IsGrid E D L (length src) → length src ≤ length out → (b ≡ value n) × (take n back' ≡ src)
      again s (d, d', l, l', g) h =
          let m = first.moves s (d, d', l, l', g) h in
          let k : n ≡ D * L * E = cc (e, m.answer) in
          let w : length (take n out') ≡ n = length-take-le n out' (omega (arith, m.past.same)) in
          let m' = second.moves s (d, d', l, l', w ∙ k) (omega (arith, w)) in
          let cut : (r c : ℕ) → r < D → c < L → part (to r c * E) E (take n out') ≡ part (to r c * E) E out' =
          λ r c i j. rw zero-add at (part-part 0 n (to r c * E) E out' (omega (arith, k, row_fits (D * L) E (to r c) (t.inside r c i j)))) in
          let each : (r c : ℕ) → r < D → c < L → part (from r c * E) E back' ≡ part (from r c * E) E src =
          λ r c i j. m'.symbols r c i j ∙ cut r c i j ∙ m.symbols r c i j in
          let same : (p : ℕ) → p < D * L → part (p * E) E back' ≡ part (p * E) E src =
          λ p i. rw (f.there p i) at (each (row p) (column p) (f.row_within p i) (f.column_within p i)) in
          let x = symbols_same E src (λ p. p) back' (D * L) same in
          let y = symbols_same E src (λ p. p) src (D * L) (λ p i. refl) in
          (m'.answer ∙ ap value (sym k), rw k (sym x ∙ y ∙ whole (D * L * E) src g))

      go : Tested E D L (length src) (length out) → (b ≡ value n) × (take n back' ≡ src)
      go (no_size k) = told_apart n 1 (sym e ∙ (first.size k).answer)
      go (no_grid s k) = told_apart n 17 (sym e ∙ (first.grid s k).answer)
      go (no_room s g h) = told_apart n 2 (sym e ∙ (first.short s g h).answer)
      go (all_pass s g h) = again s g h

-- ---- the two calls

pub sent : Sent
sent E D L src out a out' =
    let f = taken_places D L in
    let t = sent_places D L in
    (judged E D L f t src out a out', promised E D L f t src out a out')

pub put_back : PutBack
put_back E D L src out a out' =
    let f = sent_places D L in
    let t = taken_places D L in
    (judged E D L f t src out a out', promised E D L f t src out a out')

pub undone : Undone
undone E D L = (
  λ n src out out' back back' a b i e j room.
      undo E D L (taken_places D L) (sent_places D L) n src out out' back back' (said a) (said b)
      ((sent E D L src out a out').0 i) e ((put_back E D L (take n out') back b back').0 j) room,
  λ n src out out' back back' a b i e j room.
      undo E D L (sent_places D L) (taken_places D L) n src out out' back back' (said a) (said b)
      ((put_back E D L src out a out').0 i) e ((sent E D L (take n out') back b back').0 j) room,
)
