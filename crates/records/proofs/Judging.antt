-- Each record is what the history asks of its line, and nothing else can be one.
use Rattle.std.specs.Prelude.{◌≡◌, ◌<◌, ◌∷◌, ◌≢◌}
use Rattle.words.specs.Words.{arith, ℕ, List, refl, ◌∙◌, sym, ap, [], Some, suc, true, zero, None, false, Bool, subst, Option, ap₂, cond}
use Rattle.words.specs.Words.{eqb, some-injective, none-ne-some, ne_eqb}
use Rattle.wire.specs.declared.Setting.{Setting}
use Rattle.history.specs.History.{Call, source-call, repair-call, OfBytes, esi_of, Side, behind, ahead, Reading, fails, located, check, from_side, read_source}
use Rattle.history.specs.History.{read_repair, reading, Located, Log, read_after, logged, Judged}
use Rattle.wire.specs.Answers.{Said, value, refusal}
use Rattle.wire.specs.Flows.{all_flows}
use Rattle.history.specs.Model.{packet_of, Joined, State, found_by, said_of, state_after, added, responds, answering, receiving}
use Rattle.history.proofs.Answers.{Tracks, Passes, base_found, judged}
use Rattle.history.proofs.Counting.{judged_once}
use Rattle.history.proofs.Readings.{reading_passes}
use Rattle.lines.specs.Forms.{Says}
use Rattle.lines.specs.Reading.{call_in}
use Rattle.lines.proofs.Promises.{read_exactly}
use Rattle.records.specs.Records.{Record, room}
use Rattle.records.specs.Replay.{record_of, record_at, state_at, records_from}
use Rattle.records.specs.Claims.{said_by, logged_by, Recorded, Records}
use Rattle.decoder.specs.Receiver as decoder

-- ---- No refusal has the number 0

abbrev Numbered : Reading → Type 0
Numbered (fails n) = 0 < n
Numbered (located q) = Unit {0}

checked : (t : Bool) (n : ℕ) (r : Reading) → 0 < n → Numbered r → Numbered (check t n r)
unfolding check
checked true n r h k = k
checked false n r h k = h

side_numbered : (n : ℕ) (p : Side) (next : ℕ → Reading) → ((d : ℕ) → Numbered (next d)) → Numbered (from_side n p next)
unfolding from_side
side_numbered n behind next h = omega arith
side_numbered n (ahead d) next h = checked _ 9 (next d) (omega arith) (h d)

numbered : (s : Setting) (flows : List ℕ) (base b : ℕ) (c : Call) → Numbered (reading s flows base b c)
unfolding reading read_source read_repair
numbered s flows base b (source-call flow p) =
    checked _ 2 _ (omega arith)
    (checked _ 5 _ (omega arith) (checked _ 16 _ (omega arith) (checked _ 4 _ (omega arith) (side_numbered _ _ _ (λ d. tt)))))
numbered s flows base b (repair-call p) =
    checked _ 2 _ (omega arith)
    (checked _ 5 _ (omega arith) (checked _ 6 _ (omega arith) (side_numbered _ _ _ (λ d. checked _ 10 _ (omega arith) tt))))

abbrev Positive : Said → Type 0
Positive (value n) = Unit {0}
Positive (refusal n) = 0 < n

-- a record tells the answer that it is of
told : (a : Said) → Positive a → said_by (record_of a) ≡ a
told (value n) h = refl
told (refusal n) h = rw (ne_eqb n 0 (λ e. omega arith))

-- ---- Records of lines

-- a record, and what it was of
refused_nothing : (a : Said) → (record_of a).answer ≢ 0 → (record_of a).known ≡ 0
refused_nothing (value n) h = absurd (h refl)
refused_nothing (refusal n) h = refl

module _ (s : Setting) (some_bytes : 0 < s.size) where
  -- the answer of a call is numbered
  positive : (t : State s) (c : Call) → Positive (said_of (receiving s all_flows t room c))
  unfolding answering
  positive t c = go (found_by s t (esi_of c)) (reading s all_flows (found_by s t (esi_of c)).base room c) (numbered s all_flows (found_by s t (esi_of c)).base room c)
    where
      got : (j : Joined s) (o : Option (Joined s)) → Positive (said_of (added s j o))
      got j None = omega arith
      got j (Some j') = tt

      go : (j : Joined s) (r : Reading) → Numbered r → Positive (said_of (responds s j r))
      go j (fails n) h = h
      go j (located q) h = got j (decoder.receive j (packet_of s.size q))

  -- a call is answered as the history asks, and the state follows the history after it
  called : (log : Log) (t : State s) (c : Call) → Tracks s some_bytes log t → OfBytes c
      → let o = receiving s all_flows t room c in
      Judged s log (read_after s all_flows log room c) (said_of o)
      × Tracks s some_bytes (logged s log (read_after s all_flows log room c) (said_of o)) (state_after t o)
  unfolding answering
  called log t c k b =
      let j = found_by s t (esi_of c) in
      let r = reading s all_flows j.base room c in
      let same : r ≡ read_after s all_flows log room c = ap (λ y. reading s all_flows y room c) (sym (base_found s some_bytes log t (esi_of c) k)) in
      let passes : (q : Located) → r ≡ located q → Passes s some_bytes log j.base q =
      λ q e. subst (λ y. Passes s some_bytes log y q) (base_found s some_bytes log t (esi_of c) k)
      (reading_passes s all_flows some_bytes log room c q b (sym same ∙ e)) in
      subst (λ y. Judged s log y (said_of (responds s j r)) × Tracks s some_bytes (logged s log y (said_of (responds s j r))) (state_after t (responds s j r)))
      same (judged s some_bytes log t (esi_of c) r k passes)

  -- the record of a line, and the state after it
  at_line : (log : Log) (t : State s) (l : List ℕ) → Tracks s some_bytes log t → (o : Option Call) → call_in l ≡ o
      → Recorded s log l (record_at s t o) × Tracks s some_bytes (logged_by s log o (record_at s t o)) (state_at s t o)
  at_line log t l k None e = (
    record {
      answered = λ c h. absurd (none-ne-some c (sym e ∙ (read_exactly.calls l c).1 h));
      nothing = λ h. refl;
      other = λ h. refl;
    },
    k,
  )
  at_line log t l k (Some c) e =
      let says : Says l c = (read_exactly.calls l c).0 e in
      let a = said_of (receiving s all_flows t room c) in
      let (j, n) = called log t c k says.bytes in
      let same : said_by (record_of a) ≡ a = told a (positive t c) in (
        record {
          answered = λ c' h.
              subst (λ x. Judged s log (read_after s all_flows log room x) (said_by (record_of a)))
              (some-injective _ _ (sym e ∙ (read_exactly.calls l c').1 h))
              (subst (Judged s log (read_after s all_flows log room c)) (sym same) j);
          nothing = refused_nothing a;
          other = λ h. absurd (h c says);
        },
        subst (λ x. Tracks s some_bytes (logged s log (read_after s all_flows log room c) x) (state_after t (receiving s all_flows t room c))) (sym same) n,
      )

  pub records : (ls : List (List ℕ)) (log : Log) (t : State s) → Tracks s some_bytes log t → Records s log ls (records_from s t ls)
  unfolding records_from
  records [] log t k = tt
  records (l ∷ ls) log t k =
      let (r, n) = at_line log t l k (call_in l) refl in
      (r, records ls (logged_by s log (call_in l) (record_at s t (call_in l))) (state_at s t (call_in l)) n)

-- ---- No choice

-- two records that tell the same answer are equal
same_numbers : (a k a' k' : ℕ) → (a ≢ 0 → k ≡ 0) → (a' ≢ 0 → k' ≡ 0)
    → cond (eqb a 0) (value k) (refusal a) ≡ cond (eqb a' 0) (value k') (refusal a') → (a ≡ a') × (k ≡ k')
same_numbers zero k zero k' h h' e = let z : k ≡ k' = cc in (refl, z)
same_numbers zero k (suc a') k' h h' e =
    let f = rw (ne_eqb (suc a') 0 (λ x. omega arith)) at e in
    let z : ◌≡◌ {A = ℕ} 0 1 = cc in absurd (omega arith)
same_numbers (suc a) k zero k' h h' e =
    let f = rw (ne_eqb (suc a) 0 (λ x. omega arith)) at e in
    let z : ◌≡◌ {A = ℕ} 0 1 = cc in absurd (omega arith)
same_numbers (suc a) k (suc a') k' h h' e =
    let f = rw (ne_eqb (suc a) 0 (λ x. omega arith), ne_eqb (suc a') 0 (λ x. omega arith)) at e in
    let z : suc a ≡ suc a' = cc in
    (z, h (λ x. omega arith) ∙ sym (h' (λ x. omega arith)))

same_record : (r r' : Record) → (r.answer ≢ 0 → r.known ≡ 0) → (r'.answer ≢ 0 → r'.known ≡ 0) → said_by r ≡ said_by r' → r ≡ r'
same_record r r' h h' e =
    let (a, k) = same_numbers r.answer r.known r'.answer r'.known h h' e in
    ap₂ (λ (x y : ℕ). record { answer = x; known = y }) a k

module _ (s : Setting) where
  -- a line has one record
  one_line : (log : Log) (l : List ℕ) (o : Option Call) → call_in l ≡ o → (r r' : Record) → Recorded s log l r → Recorded s log l r' → r ≡ r'
  one_line log l None e r r' h h' =
      let never : (c : Call) → ¬ Says l c = λ c x. none-ne-some c (sym e ∙ (read_exactly.calls l c).1 x) in
      let a = h.other never in
      let a' = h'.other never in
      let n = h.nothing (λ x. omega arith) in
      let n' = h'.nothing (λ x. omega arith) in
      ap₂ (λ (x y : ℕ). record { answer = x; known = y }) (a ∙ sym a') (n ∙ sym n')
  one_line log l (Some c) e r r' h h' =
      let says : Says l c = (read_exactly.calls l c).0 e in
      same_record r r' h.nothing h'.nothing
      (judged_once s log (read_after s all_flows log room c) (said_by r) (said_by r') (h.answered c says) (h'.answered c says))

  pub records_once : (ls : List (List ℕ)) (log : Log) (rs rs' : List Record) → Records s log ls rs → Records s log ls rs' → rs ≡ rs'
  records_once [] log [] [] h h' = refl
  records_once [] log [] (r' ∷ rs') h h' = elim h' [ ]
  records_once [] log (r ∷ rs) _ h h' = elim h [ ]
  records_once (l ∷ ls) log [] _ h h' = elim h [ ]
  records_once (l ∷ ls) log (r ∷ rs) [] h h' = elim h' [ ]
  records_once (l ∷ ls) log (r ∷ rs) (r' ∷ rs') (h, hs) (h', hs') =
      let e : r ≡ r' = one_line log l (call_in l) refl r r' h h' in
      ap₂ (λ (x : Record) (xs : List Record). x ∷ xs) e
      (records_once ls (logged_by s log (call_in l) r) rs rs' hs (subst (λ x. Records s (logged_by s log (call_in l) x) ls rs') (sym e) hs'))
