-- What a sender's memory holds after every list of its calls.
use Rattle.std.specs.Prelude.{◌≡◌, ◌+◌, ◌∷◌, ◌++◌, ◌||◌, Result, Ok, Err}
use Rattle.words.specs.Words.{arith, ℕ, List, length, refl, ◌∙◌, sym, ap, [], Some, true, None, false, Bool, Option, ltb, append_assoc}
use Rattle.words.specs.Words.{append-nil, not}
use Rattle.wire.specs.declared.Setting.{Setting}
use Rattle.wire.specs.Settings.{scheme_number, Valid, setting_of}
use Rattle.wire.specs.Flows.{announced}
use Rattle.wire.specs.Packets.{longest_adu, symbol_count, source_symbols}
use Rattle.wire.proofs.Settings.{setting-named, setting-names}
use Rattle.wire.specs.Answers.{value, refusal, said}
use Rattle.sender.specs.State.{Sender, fresh, taken, memory_size, header_of, Holds}
use Rattle.sender.specs.Calls.{Outcome, refused, done, refuse_if, opening, adding}
use Rattle.sender.specs.Promises.{Follows}
use Rattle.sender.specs.Run.{SenderCall, added, repaired, Calls, memory_after, SenderRun, symbols_of}
use Rattle.sender.proofs.Heads.{opened}
use Rattle.wire.specs.declared.Refusal.{Refusal}

-- ---- an outcome that is done passed its tests

passed : (b : Bool) (n : ℕ) (o : Outcome) (p : List ℕ) (s : Sender) → refuse_if b n o ≡ done p s → (b ≡ false) × (o ≡ done p s)
passed true n o p s e = (cc, cc)
passed false n o p s e = (refl, e)

pub impossible : (n k : ℕ) → value n ≡ refusal k → ⊥
impossible n k e = let z : ◌≡◌ {A = ℕ} 0 1 = cc in omega arith

-- ---- the list

-- the symbols of calls, and of those after them
pub symbols-append : (E : ℕ) (k l : List SenderCall) → symbols_of E (k ++ l) ≡ symbols_of E k ++ symbols_of E l
symbols-append E [] l = refl
symbols-append E (added flow adu out (Ok n) m' out' ∷ k) l =
    let new = source_symbols flow adu E in
    ap (λ (xs : List (List ℕ)). new ++ xs) (symbols-append E k l) ∙ sym (append_assoc new (symbols_of E k) (symbols_of E l))
symbols-append E (added flow adu out (Err n) m' out' ∷ k) l = symbols-append E k l
symbols-append E (repaired key dt count out r out' ∷ k) l = symbols-append E k l

module _ (t : Setting) (flows : List ℕ) where
  abbrev holding : List (List ℕ) → Sender
  holding xs = record { setting = t; flows = flows; symbols = xs }

  -- an ADU that was taken, and one that was refused
  added_done : (xs : List (List ℕ)) (flow : ℕ) (adu : List ℕ) (n : ℕ) (m out m' out' : List ℕ) (o : Outcome) → adding (holding xs) flow adu (length out) ≡ o
      → Follows o m out (Ok n) m' out' → Holds m' (holding (xs ++ source_symbols flow adu t.size))
  unfolding adding
  added_done xs flow adu n m out m' out' (refused k) e f = absurd (impossible n k f.answer)
  added_done xs flow adu n m out m' out' (done p s) e f =
      let z = passed (not (announced flows flow)) 16 _ p s e in
      let a = passed (ltb longest_adu (length adu) || ltb t.width (symbol_count t.size (length adu))) 4 _ p s z.1 in
      let b = passed (ltb (length out) (length adu + 4)) 2 _ p s a.1 in
      let r : taken (holding xs) flow adu ≡ s = cc in
      rw r f.holds

  added-refused : (xs : List (List ℕ)) (m out m' out' : List ℕ) (k : _) (o : Outcome) → Follows o m out (Err k) m' out' → Holds m (holding xs)
      → Holds m' (holding xs)
  added-refused xs m out m' out' k (refused j) f h = rw f.memory h
  added-refused xs m out m' out' k (done p s) f h = absurd (impossible (length p) _ (sym f.answer))

  -- the memory after some calls holds what they took, and the others go on from there
  pub ran : (xs : List (List ℕ)) (m : List ℕ) (before after : List SenderCall) → Holds m (holding xs) → Calls m (before ++ after)
      → Holds (memory_after m before) (holding (xs ++ symbols_of t.size before)) × Calls (memory_after m before) after
  ran xs m [] after h c = (rw append-nil h, c)
  ran xs m (added flow adu out (Ok n) m' out' ∷ l) after h (f, b, p, c) =
      let new = source_symbols flow adu t.size in
      let a = added_done xs flow adu n m out m' out' _ refl (p.follows (holding xs) h) in
      rw (← append_assoc xs new (symbols_of t.size l)) (ran (xs ++ new) m' l after a c)
  ran xs m (added flow adu out (Err k) m' out' ∷ l) after h (f, b, p, c) =
      ran xs m' l after (added-refused xs m out m' out' k (adding (holding xs) flow adu (length out)) (p.follows (holding xs) h) h) c
  ran xs m (repaired key dt count out r out' ∷ l) after h (k, p, c) = ran xs m l after h c

-- ---- the opening

opened_holds : (t : Setting) (flows m m' : List ℕ) (r : Result ℕ Refusal) (o : Outcome) → opening (scheme_number t.scheme) t.size t.width flows (length m) ≡ o
    → Follows o m [] r m' [] → said r ≡ value 0 → Holds m' (fresh t flows)
unfolding opening
opened_holds t flows m m' r (refused k) e f a = absurd (impossible 0 k (sym a ∙ f.answer))
opened_holds t flows m m' r (done p s) e f a = go (setting_of (scheme_number t.scheme) t.size t.width) refl
  where
    go : (x : Option Setting) → setting_of (scheme_number t.scheme) t.size t.width ≡ x → Holds m' (fresh t flows)
    go None q = absurd (let c : refused 1 ≡ done p s = rw q at e in let z : ◌≡◌ {A = ℕ} 0 1 = cc in omega arith)
    go (Some u) q =
        let n = setting-names (scheme_number t.scheme) t.size t.width u q in
        let v : Valid t = record {
          size_least = omega (arith, n.size, n.valid.size_least);
          size_most = omega (arith, n.size, n.valid.size_most);
          width_least = omega (arith, n.width, n.valid.width_least);
          width_most = omega (arith, n.width, n.valid.width_most);
        } in
        let c : refuse_if (ltb (length m) (memory_size t)) 2 (done [] (fresh t flows)) ≡ done p s = rw (setting-named t v) at e in
        let d = passed (ltb (length m) (memory_size t)) 2 (done [] (fresh t flows)) p s c in
        let g : fresh t flows ≡ s = cc in
        rw g f.holds

module _ (t : Setting) (l : List SenderCall) (r : SenderRun t l) where
  pub run_holds : Holds r.after (fresh t r.flows)
  run_holds = opened_holds t r.flows r.before r.after r.answer _ refl r.opened r.answered

  -- and the memory after the calls holds what they took
  pub run_held : Holds (memory_after r.after l) (record { setting = t; flows = r.flows; symbols = symbols_of t.size l })
  run_held = (ran t r.flows [] r.after l [] run_holds (rw append-nil r.calls)).0

  pub run_valid : Valid t
  run_valid = (opened r.after (header_of (fresh t r.flows)) run_holds.header).valid
