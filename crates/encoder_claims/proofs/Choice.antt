-- Two encoders of a block whose calls are judged so answer and write alike.
use Rattle.std.specs.Prelude.{◌≡◌, ◌≤◌, ◌+◌, ◌<◌, ◌∷◌, ◌++◌, Result, Ok, Err}
use Rattle.words.specs.Words.{arith, ℕ, List, length, refl, ◌∙◌, sym, ap, [], subst, map, ap₂, append_assoc, append-nil}
use Rattle.words.specs.Words.{ext_get_or}
use Rattle.wire.specs.Answers.{Said, said}
use Rattle.encoder_claims.specs.Run.{EncoderCall, added, repaired, memory_after, symbols_of}
use Rattle.encoder_claims.specs.Judged.{Refuses, Writes, AduJudged, identified, IsSymbol, RepairJudged, CallJudged}
use Rattle.encoder_claims.specs.Claims.{given, seen, NoChoice}
use Rattle.encoder_claims.proofs.Running.{impossible, below, symbols-append}
use Rattle.wire.specs.declared.Refusal.{Refusal}

-- Two answers and outputs that are both so.
Alike : Said → Said → List ℕ → List ℕ → Type 0
Alike a b out out' = (a ≡ b) × (out ≡ out')

both_refuse : {k : ℕ} {a b : Said} {m m' n n' out x y : List ℕ} → Refuses k a m m' out x → Refuses k b n n' out y → Alike a b x y
unfolding Alike
both_refuse p q = (p.answer ∙ sym q.answer, p.output ∙ sym q.output)

both_write : {packet : List ℕ} {a b : Said} {out x y : List ℕ} → Writes packet a out x → Writes packet b out y → Alike a b x y
unfolding Alike
both_write p q = (p.answer ∙ sym q.answer, p.output ∙ sym q.output)

-- What is taken by a call hangs on its answer alone.
taken_alike : (E flow flow₂ : ℕ) (adu adu₂ out out₂ m m₂ x y : List ℕ) (a b : Result ℕ Refusal) → flow ≡ flow₂ → adu ≡ adu₂ → said a ≡ said b
    → symbols_of E (added flow adu out a m x ∷ []) ≡ symbols_of E (added flow₂ adu₂ out₂ b m₂ y ∷ [])
taken_alike E flow flow₂ adu adu₂ out out₂ m m₂ x y (Ok i) (Ok j) f g e = rw (f, g)
taken_alike E flow flow₂ adu adu₂ out out₂ m m₂ x y (Err i) (Err j) f g e = refl
taken_alike E flow flow₂ adu adu₂ out out₂ m m₂ x y (Ok i) (Err j) f g e = absurd (impossible i _ e)
taken_alike E flow flow₂ adu adu₂ out out₂ m m₂ x y (Err i) (Ok j) f g e = absurd (impossible j _ (sym e))

memory_on : (m : List ℕ) (c : EncoderCall) (l : List EncoderCall) → memory_after m (c ∷ l) ≡ memory_after (memory_after m (c ∷ [])) l
memory_on m (added flow adu out r m' x) l = refl
memory_on m (repaired esi out r x) l = refl

module _ (E k total number : ℕ) where
  adu_once : (xs : List (List ℕ)) (m n adu out : List ℕ) (a b : Said) (m' n' x y : List ℕ) → AduJudged E k total number xs m adu out a m' x
      → AduJudged E k total number xs n adu out b n' y → Alike a b x y
  adu_once xs m n adu out a b m' n' x y p q =
      below (length out) (length adu + 6) (λ g. both_refuse (p.short g) (q.short g))
      (λ r. below (length xs) k
      (λ f. below E (3 + length adu) (λ g. both_refuse (p.long r f g) (q.long r f g)) (λ g. both_write (p.takes r f g).0 (q.takes r f g).0))
      (λ g. both_refuse (p.full r g) (q.full r g)))

  -- There is one symbol with an ESI.
  symbol_once : (xs : List (List ℕ)) (esi : ℕ) (u v : List ℕ) → IsSymbol E k total number xs esi u → IsSymbol E k total number xs esi v → u ≡ v
  symbol_once xs esi u v p q =
      ext_get_or 0 u v (p.sized ∙ sym q.sized)
      (λ b h. let g : b < E = omega (arith, p.sized) in let (f, t) = p.polynomial b g in p.valued b g f t ∙ sym (q.valued b g f t))

  repair_once : (xs : List (List ℕ)) (m n : List ℕ) (esi : ℕ) (out : List ℕ) (a b : Said) (x y : List ℕ) → RepairJudged E k total number xs m esi out a x
      → RepairJudged E k total number xs n esi out b y → Alike a b x y
  repair_once xs m n esi out a b x y p q =
      below (length out) (E + 6) (λ g. both_refuse (p.short g) (q.short g))
      (λ r. below esi k (λ g. both_refuse (p.stray r (λ f. omega (arith, f.0))) (q.stray r (λ f. omega (arith, f.0))))
      (λ f. below esi total
      (λ g. below (length xs) k (λ h. both_refuse (p.early r (f, g) h) (q.early r (f, g) h)) (λ h. made r f g h))
      (λ g. both_refuse (p.stray r (λ f. omega (arith, f.1))) (q.stray r (λ f. omega (arith, f.1))))))
    where
      made : E + 6 ≤ length out → k ≤ esi → esi < total → k ≤ length xs → Alike a b x y
      made r f g h =
          let (u, i, w) = p.makes r (f, g) h in
          let (v, j, z) = q.makes r (f, g) h in
          both_write w (subst (λ s. Writes (identified E k total number esi ++ s) b out y) (symbol_once xs esi v u j i) z)

  call_once : (xs : List (List ℕ)) (m n : List ℕ) (c d : EncoderCall) → given c ≡ given d → CallJudged E k total number xs m c
      → CallJudged E k total number xs n d → (seen c ≡ seen d) × (symbols_of E (c ∷ []) ≡ symbols_of E (d ∷ []))
  unfolding Alike
  call_once xs m n (added flow adu out r m' x) (added flow₂ adu₂ out₂ r₂ m₂ y) e p q =
      let f : flow ≡ flow₂ = cc in
      let g : adu ≡ adu₂ = cc in
      let h : out ≡ out₂ = cc in
      let (a, o) = adu_once xs m n adu out (said r) (said r₂) m' m₂ x y p (rw (← g, ← h) at q) in
      (rw (a, o), taken_alike E flow flow₂ adu adu₂ out out₂ m' m₂ x y r r₂ f g a)
  call_once xs m n (repaired esi out r x) (repaired esi₂ out₂ r₂ y) e p q =
      let f : esi ≡ esi₂ = cc in
      let h : out ≡ out₂ = cc in
      let (a, o) = repair_once xs m n esi out (said r) (said r₂) x y p (rw (← f, ← h) at q) in
      (rw (a, o), refl)
  call_once xs m n (added flow adu out r m' x) (repaired esi₂ out₂ r₂ y) e p q = absurd (let z : ◌≡◌ {A = ℕ} 0 1 = cc in omega arith)
  call_once xs m n (repaired esi out r x) (added flow₂ adu₂ out₂ r₂ m₂ y) e p q = absurd (let z : ◌≡◌ {A = ℕ} 0 1 = cc in omega arith)

  -- The calls of a list after those that took xs.
  JudgedFrom : List (List ℕ) → List ℕ → List EncoderCall → Type 0
  JudgedFrom xs m l =
      (before : List EncoderCall) (c : EncoderCall) (after : List EncoderCall) → l ≡ before ++ (c ∷ after)
      → CallJudged E k total number (xs ++ symbols_of E before) (memory_after m before) c

  judged_on : (xs : List (List ℕ)) (m : List ℕ) (c : EncoderCall) (l : List EncoderCall) → JudgedFrom xs m (c ∷ l)
      → JudgedFrom (xs ++ symbols_of E (c ∷ [])) (memory_after m (c ∷ [])) l
  unfolding JudgedFrom
  judged_on xs m c l f before d after e =
      rw (append_assoc, ← symbols-append E (c ∷ []) before, ← memory_on m c before) (f (c ∷ before) d after (ap (λ x. c ∷ x) e))

  alike : (xs : List (List ℕ)) (m n : List ℕ) (cs ds : List EncoderCall) → map given cs ≡ map given ds → JudgedFrom xs m cs → JudgedFrom xs n ds
      → map seen cs ≡ map seen ds
  unfolding JudgedFrom
  alike xs m n [] [] e f g = refl
  alike xs m n [] (d ∷ ds) e f g = absurd (let z : ◌≡◌ {A = ℕ} 0 1 = cc in omega arith)
  alike xs m n (c ∷ cs) [] e f g = absurd (let z : ◌≡◌ {A = ℕ} 0 1 = cc in omega arith)
  alike xs m n (c ∷ cs) (d ∷ ds) e f g =
      let p : given c ≡ given d = cc in
      let q : map given cs ≡ map given ds = cc in
      let (one, new) = call_once xs m n c d p (rw append-nil at (f [] c cs refl)) (rw append-nil at (g [] d ds refl)) in
      let rest = alike (xs ++ symbols_of E (c ∷ [])) (memory_after m (c ∷ [])) (memory_after n (d ∷ [])) cs ds q (judged_on xs m c cs f)
      (subst (λ x. JudgedFrom (xs ++ x) (memory_after n (d ∷ [])) ds) (sym new) (judged_on xs n d ds g)) in
      ap₂ (λ a as'. a ∷ as') one rest

pub no_choice : NoChoice
unfolding JudgedFrom
no_choice E k total number m n cs ds e f g = alike E k total number [] m n cs ds e f g
