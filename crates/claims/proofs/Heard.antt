-- Positions become starts: after an ADU that is held at one, and where a source packet was accepted.
use Rattle.std.specs.Prelude.{◌≡◌, ◌≤◌, ◌+◌, ◌<◌, ◌-◌, ◌∷◌, ◌++◌, Result, Ok}
use Rattle.words.specs.Words.{arith, ℕ, List, length, refl, ◌∙◌, sym, ap, [], Some, true, get_or, subst, Option, drop, leb}
use Rattle.words.specs.Words.{some-injective, inr, inl, append_assoc, leb-true}
use Rattle.wire.specs.declared.Setting.{Setting}
use Rattle.wire.specs.Settings.{Valid}
use Rattle.wire.specs.Packets.{symbol_count, source_symbols, source_adu}
use Rattle.wire.specs.Flows.{announced}
use Rattle.wire.proofs.Adui.{symbols_count}
use Rattle.wire.proofs.Settings.{both}
use Rattle.starts.proofs.Chaining.{symbols-some}
use Rattle.history.specs.Symbol.{bytes_of, symbol_of}
use Rattle.history.specs.History.{Filling, symbols_at, Located, source, repair, Satisfied, All, Consistent, Known, Reading, fails, located, first, esi_of}
use Rattle.history.specs.History.{read_source, read_packet, base_for, Log, fresh, IsValue, raised, base_of, logged, Spanned, MarkedBy, already, later, Start}
use Rattle.wire.specs.Answers.{Said, value, refusal, said}
use Rattle.receiver.specs.Promises.{Layout, AduAnswered}
use Rattle.history.proofs.Says.{symbol_bytes}
use Rattle.history.proofs.Readings.{check_passed, source-read, reading_passed}
use Rattle.history.proofs.Starting.{start_spanned}
use Rattle.claims.specs.Run.{Step, read, goes_on, history}
use Rattle.claims.specs.Demand.{esi}
use Rattle.claims.specs.Handing.{HoldsAdu, IsHandedOut}
use Rattle.claims.specs.Heard.{GoesOn, Heard, HeardHanded}
use Rattle.claims.proofs.SentAdus.{first_here, length_here}
use Rattle.wire.specs.declared.Refusal.{Refusal}

module _ (s : Setting) where
  open s use {size as E, width}

  -- ---- A start goes on

  module _ (v : Valid s) (p flow : ℕ) (adu : List ℕ) where
    -- All fillings agree on the first symbol of an ADU that every filling holds.
    held_known : (qs : List Located) (base : ℕ) → HoldsAdu s qs base p flow adu → Known E qs p
    held_known qs base h f g a c =
        let first : (k : Filling E) → All E qs k → bytes_of E (k p) ≡ get_or (source_symbols flow adu E) 0 [] =
        λ k b. first_here E (omega (arith, v.size_least)) k p flow adu (h.held k b) in
        sym (symbol_bytes E (f p)) ∙ ap (symbol_of E) (first f a ∙ sym (first g c)) ∙ symbol_bytes E (g p)

    on : (qs : List Located) (b : ℕ) → base_of s qs ≡ Some b → Consistent E qs → Start s qs p → HoldsAdu s qs b p flow adu
        → Start s qs (p + symbol_count E (length adu))
    on [] b e c r h = absurd r
    on (q ∷ qs) b e (f, a) r h =
        let base = raised s (base_of s qs) q in
        let is : base ≡ b = some-injective _ _ e in
        let n = ap (symbol_count E) (length_here E v.size_least f p flow adu h.long (h.held f a)) in
        let Some = symbols-some E (length adu) (omega (arith, v.size_least)) in
        let span = start_spanned s (q ∷ qs) 0 p r in
        subst (λ (i : ℕ). Start s (q ∷ qs) (p + i)) n
        (later r (omega (arith, Some, h.inside, is)) (held_known (q ∷ qs) b h) f a
        (subst (λ (i : ℕ). Spanned s base (p + i)) (sym n)
        (record { low = omega (arith, span.low); high = omega (arith, h.inside, is) })))

  -- ---- A source packet's positions

  -- The window reaches as far as a packet that was accepted.
  named_high : (o : Option ℕ) (q : Located) (p : ℕ) → MarkedBy s q p → p ≤ raised s o q + width
  named_high o (source x symbols) p (inl e) = omega (arith, e)
  named_high o (source x symbols) p (inr e) = omega (arith, e)
  named_high o (repair x n coefficients symbols) p e = absurd e

  -- There is a base once a packet was accepted.
  has_base : (newer older : List Located) (q : Located) → (b : ℕ) × (base_of s (newer ++ (q ∷ older)) ≡ Some b)
  has_base [] older q = (_, refl)
  has_base (x ∷ newer) older q = (_, refl)

  -- A base rises only.
  rises : (o : Option ℕ) (b : ℕ) (q : Located) → o ≡ Some b → b ≤ raised s o q
  rises o b q e = subst (λ (y : ℕ). y ≤ raised s o q) (ap (λ (u : Option ℕ). base_for u (first q)) e) (omega arith)

  stays : (newer older : List Located) (q : Located) (p : ℕ) → MarkedBy s q p → (b : ℕ) → base_of s (newer ++ (q ∷ older)) ≡ Some b → b ≤ p
      → Start s (newer ++ (q ∷ older)) p
  stays [] older q p e b i h = already (inr e) (record { low = omega (arith, h, some-injective _ _ i); high = named_high (base_of s older) q p e })
  stays (x ∷ newer) older q p e b i h =
      let qs = newer ++ (q ∷ older) in
      let (b₀, i₀) = has_base newer older q in
      let up = rises (base_of s qs) b₀ x i₀ in
      let is : raised s (base_of s qs) x ≡ b = some-injective _ _ i in
      let r = stays newer older q p e b₀ i₀ (omega (arith, up, is, h)) in
      let high = subst (λ (o : Option ℕ). p ≤ base_for o 0 + width) i₀ (start_spanned s qs 0 p r).high in
      already (inl r) (record { low = omega (arith, is, h); high = omega (arith, high, up) })

  -- ---- What such a packet holds

  satisfied : (newer older : List Located) (q : Located) (f : Filling E) → All E (newer ++ (q ∷ older)) f → Satisfied E q f
  satisfied [] older q f a = a.0
  satisfied (x ∷ newer) older q f a = satisfied newer older q f a.1

  reaches : (newer older : List Located) (p : ℕ) (symbols : List (List ℕ)) (b : ℕ) → base_of s (newer ++ (source p symbols ∷ older)) ≡ Some b
      → p + length symbols ≤ b + width
  reaches [] older p symbols b i = omega (arith, some-injective _ _ i)
  reaches (x ∷ newer) older p symbols b i =
      let (b₀, i₀) = has_base newer older (source p symbols) in
      let up = rises (base_of s (newer ++ (source p symbols ∷ older))) b₀ x i₀ in
      let is : raised s (base_of s (newer ++ (source p symbols ∷ older))) x ≡ b = some-injective _ _ i in
      omega (arith, reaches newer older p symbols b₀ i₀, up, is)

pub chain_goes_on : GoesOn
chain_goes_on s v flows ts c b e p flow adu r h = on s v p flow adu (history s flows ts) b e c r h

pub heard : Heard
heard s flows ts newer older q e p n b i h =
    subst (λ qs. Start s qs p) (sym e) (stays s newer older q p n b (sym (ap (base_of s) e) ∙ i) h)

-- An ADU whose symbols are those of an accepted source packet.
held_handed : (L : Layout) (s : Setting) (flows : List ℕ) → Valid s → (ts : List Step) (m : List ℕ) (base : ℕ) → base_of s (history s flows ts) ≡ Some base
    → IsHandedOut L s flows m (history s flows ts) base
    → (newer older : List Located) (p flow : ℕ) (adu : List ℕ) → length adu ≤ 65535 → announced flows flow ≡ true
    → history s flows ts ≡ newer ++ (source p (source_symbols flow adu s.size) ∷ older) → base ≤ p
    → (out out' : List ℕ) (a : Result (ℕ × ℕ) Refusal) → AduAnswered L m (esi p) out out' a → length adu ≤ length out
    → (a ≡ Ok (flow, length adu)) × (out' ≡ adu ++ drop (length adu) out)
held_handed L s flows v ts m base b g newer older p flow adu short known e h out out' a k room =
    let E = s.size in
    let qs = history s flows ts in
    let symbols = source_symbols flow adu E in
    let q = source p symbols in
    let count : length symbols ≡ symbol_count E (length adu) = symbols_count flow adu E in
    let Some = symbols-some E (length adu) (omega (arith, v.size_least)) in
    let r : p + length symbols ≤ base + s.width =
    reaches s newer older p symbols base (sym (ap (base_of s) e) ∙ b) in
    let d = p - base in
    let here : base + d ≡ p = omega (arith, h) in
    let inside : d < s.width = omega (arith, Some, count, r, h) in
    let start = heard s flows ts newer older q e p (inl refl) base b h in
    let held : HoldsAdu s qs base p flow adu = record {
      long = short;
      inside = omega (arith, count, r);
      held = λ f c. ap (symbols_at E f p) (sym count) ∙ satisfied s newer older q f (subst (λ x. All E x f) e c);
    } in
    ((g.calls d (omega (arith, inside, v.width_most))).handed inside out out' a (subst (λ x. AduAnswered L m (esi x) out out' a) (sym here) k) flow adu).1
    (subst (λ x. Start s qs x × HoldsAdu s qs base x flow adu × (announced flows flow ≡ true) × (length adu ≤ length out)) (sym here)
    (start, held, known, room))

-- ---- The packet of a call

module _ (s : Setting) (flows : List ℕ) where
  logged_keeps : (l : Log) (r : Reading) (a : Said) → (newer : List Located) × (logged s l r a ≡ newer ++ l)
  logged_keeps l (fails n) a = ([], refl)
  logged_keeps l (located q) (refusal n) = ([], refl)
  logged_keeps l (located q) (value n) = (q ∷ [], refl)

  keeps : (ts : List Step) (l : Log) → (newer : List Located) × (goes_on s flows l ts ≡ newer ++ l)
  keeps [] l = ([], refl)
  keeps (t ∷ ts) l =
      let (b, g) = logged_keeps l (read s flows l t) (said t.answer) in
      let (a, e) = keeps ts (logged s l (read s flows l t) (said t.answer)) in
      (a ++ b, e ∙ ap (λ (x : List Located). a ++ x) g ∙ sym (append_assoc a b l))

  logged_takes : (l : Log) (r : Reading) (a : Said) (q : Located) → r ≡ located q → IsValue a → logged s l r a ≡ q ∷ l
  logged_takes l r (value n) q e h = ap (λ x. logged s l x (value n)) e
  logged_takes l r (refusal n) q e h = absurd h

  -- An accepted packet stands in the history.
  takes : (before : List Step) (t : Step) (after : List Step) (l : Log) (q : Located) → read s flows (goes_on s flows l before) t ≡ located q
      → IsValue (said t.answer)
      → (newer : List Located) × (goes_on s flows l (before ++ (t ∷ after)) ≡ newer ++ (q ∷ goes_on s flows l before))
  takes [] t after l q e h =
      let (a, g) = keeps after (logged s l (read s flows l t) (said t.answer)) in
      (a, g ∙ ap (λ (x : List Located). a ++ x) (logged_takes l (read s flows l t) (said t.answer) q e h))
  takes (u ∷ before) t after l q e h = takes before t after _ q e h

  -- An ADU that was read is of an announced flow, and short.
  read_short : (base flow : ℕ) (p : List ℕ) (q : Located) → read_source s flows base flow p ≡ located q
      → (announced flows flow ≡ true) × (length (source_adu p) ≤ 65535)
  unfolding read_source
  read_short base flow p q h =
      let (a, g) = check_passed _ 5 _ q h in
      let (c, i) = check_passed _ 16 _ q g in
      let (b, j) = check_passed _ 4 _ q i in
      (c, leb-true _ _ (both (leb (length (source_adu p)) 65535) _ b).0)

pub heard_handed : (L : Layout) → HeardHanded L
heard_handed L s v flows before t after m b i g flow packet q c e y h out out' a k room =
    let base = base_for (base_of s (history s flows before)) (esi_of t.call) in
    let r : read_source s flows base flow packet ≡ located q =
    ap (read_packet s flows base) (sym c) ∙ reading_passed s flows base (length t.working) t.call q e in
    let z : q ≡ source (first q) (source_symbols flow (source_adu packet) s.size) =
    subst (λ w. w ≡ source (first w) (source_symbols flow (source_adu packet) s.size)) (source-read s flows base flow packet q r).says refl in
    let (known, short) = read_short s flows base flow packet q r in
    let (newer, x) = takes s flows before t after fresh q e y in
    held_handed L s flows v (before ++ (t ∷ after)) m b i g newer (history s flows before) (first q) flow (source_adu packet) short known
    (x ∙ ap (λ (w : Located). newer ++ (w ∷ history s flows before)) z)
    h out out' a k room
