-- Heard or solved: beside its 0 the symbol call says what the history says, after every list of calls that the promises allow.
use Rattle.std.specs.Prelude.{◌≡◌, ◌≤◌, ◌+◌, ◌<◌, ◌-◌, ◌∷◌, ◌++◌, ◌≢◌, ◌↔◌, Result, Ok, Err}
use Rattle.words.specs.Words.{arith, ℕ, List, length, refl, ◌∙◌, sym, ap, [], Some, None, true, get_or, false, subst, Bool}
use Rattle.words.specs.Words.{Option, ap₂, inl, inr, ⊎_elim, some-injective, none-ne-some}
use mathlib.Core.List.Memᴰ
use mathlib.Core.List.{Memᴰ}
use mathlib.Core.Bool.{false≢true}
use mathlib.Core.Logic.Iff
use Rattle.wire.specs.declared.Setting.{Setting}
use Rattle.wire.specs.Settings.{setting_of, Valid}
use Rattle.wire.proofs.Settings.{setting-names}
use Rattle.wire.specs.Answers.{value, said}
use Rattle.history.specs.Symbol.{Symbol, bytes_of, symbol_of}
use Rattle.history.specs.History.{Filling, Located, source, repair, All, Known, reading, Log, fresh, OfBytes, esi_of, IsValue, base_of}
use Rattle.history.specs.History.{logged}
use Rattle.history.specs.Origins.{Brings, Brought}
use Rattle.history.specs.Model.{State, opened, found_by, state_after, responds, answering}
use Rattle.receiver.specs.Promises.{Layout, Opened, Received, Finds, SymbolShown, shown_of}
use Rattle.history.proofs.Answers.{TracksFrom, base_in, fresh_tracks}
use Rattle.history.proofs.Says.{symbol_bytes, get_d_at}
use Rattle.history.proofs.Origins.{brought, brought_after, brought_is}
use Rattle.claims.specs.Run.{Step, Run, final, read, goes_on, history}
use Rattle.claims.specs.Demand.{esi}
use Rattle.claims.specs.Origins.{ToldOrigin, Origins, BroughtBy, AreBroughtBy, StaysHeard}
use Rattle.claims.proofs.Accepted.{AcceptedAs, keeps_on, accepted_as}
use Rattle.claims.proofs.Demand.{some_bytes, Stands, read_found, called, From, symbol, found, here, exactly, had_setting}
use Rattle.decoder.specs.Receiver as decoder
use Rattle.wire.specs.declared.Refusal.{Refusal}

-- ---- The history's words

-- What a source packet has brought is known: its symbols are the bytes there.
brought_known : (E : ℕ) (qs : List Located) (p : ℕ) → Brought qs p → Known E qs p
brought_known E [] p b f g a c = absurd b
brought_known E (source x symbols ∷ qs) p (inl (low, high)) f g a c =
    let i : ℕ = p - x in
    let at : x + i ≡ p = omega arith in
    let bytes : (h : Filling E) → All E (source x symbols ∷ qs) h → bytes_of E (h (x + i)) ≡ get_or symbols i [] =
    λ h b. sym (get_d_at E h x (length symbols) i (omega arith)) ∙ ap (λ l. get_or l i []) b.0 in
    subst (λ y. f y ≡ g y) at (sym (symbol_bytes E (f (x + i))) ∙ ap (symbol_of E) (bytes f a ∙ sym (bytes g c)) ∙ symbol_bytes E (g (x + i)))
brought_known E (repair x n coefficients symbols ∷ qs) p (inl b) f g a c = absurd b
brought_known E (q ∷ qs) p (inr b) f g a c = brought_known E qs p b f g a.1 c.1

-- The log after more calls is that which they make of the log before them.
goes_append : (s : Setting) (flows : List ℕ) (ts us : List Step) (l : Log) → goes_on s flows l (ts ++ us) ≡ goes_on s flows (goes_on s flows l ts) us
goes_append s flows [] us l = refl
goes_append s flows (t ∷ ts) us l = goes_append s flows ts us _

-- What was brought, one of the packets brings; so the order in which they were accepted is nothing to it.
pub brings_one : (l : Log) (p : ℕ) → Brought l p → (q : Located) × Memᴰ q l × Brings q p
brings_one [] p b = absurd b
brings_one (q ∷ l) p (inl b) = (q, Memᴰ.head refl, b)
brings_one (q ∷ l) p (inr b) = let (x, k, c) = brings_one l p b in (x, Memᴰ.tail k, c)

pub one_brings : (l : Log) (p : ℕ) (q : Located) → Memᴰ q l → Brings q p → Brought l p
one_brings [] p q k b = absurd (Memᴰ.not-nil k)
one_brings (x ∷ l) p q k b =
    let rest = one_brings l p q in
    ⊎_elim (λ e. inl (subst (λ y. Brings y p) e b)) (λ n. inr (rest n b)) (Memᴰ.cases_cons k)

module _ (s : Setting) (flows : List ℕ) (p : ℕ) where
  -- What was brought stays so.
  stays_after : (ts us : List Step) → Brought (history s flows ts) p → Brought (history s flows (ts ++ us)) p
  stays_after ts us b =
      let (q, k, c) = brings_one (history s flows ts) p b in
      subst (λ l. Brought l p) (sym (goes_append s flows ts us fresh))
      (one_brings _ p q (keeps_on s flows (history s flows ts) us q k) c)

  by_call : (ts : List Step) (q : Located) → AcceptedAs s flows fresh ts q → Brings q p → BroughtBy s flows ts p
  by_call ts (repair x n coefficients symbols) k b = absurd b
  by_call ts (source x symbols) k (low, high) = record {
    before = k.before;
    call = k.step;
    after = k.after;
    split = k.split;
    accepted = k.accepted;
    first = x;
    symbols = symbols;
    read_as = k.read_as;
    low = low;
    high = high;
  }

pub brought_by : AreBroughtBy
brought_by s flows ts p = (
  (λ b.
      let (q, k, c) = brings_one (history s flows ts) p b in
      by_call s flows p ts q ((accepted_as s flows ts q).0 k) c),
  (λ k.
      let q = source k.first k.symbols in
      let taken : AcceptedAs s flows fresh ts q = record {
        before = k.before;
        step = k.call;
        after = k.after;
        split = k.split;
        accepted = k.accepted;
        read_as = k.read_as;
      } in
      one_brings (history s flows ts) p q ((accepted_as s flows ts q).1 taken) (k.low, k.high)),
)

-- ---- The calls

-- What an answer is.
abbrev IsShown : Result Bool Refusal → Type 0
IsShown (Ok heard) = Unit {0}
IsShown (Err r) = ⊥

abbrev its_origin : Result Bool Refusal → Bool
its_origin (Ok heard) = heard
its_origin (Err r) = false

not_so : (h : Bool) → h ≢ true → h ≡ false
not_so true n = absurd (n refl)
not_so false n = refl

module _ (L : Layout) (s : Setting) (flows : List ℕ) (v : Valid s) where
  open s use {size as E, width}

  -- The memory holds a state that follows the history, and says that what the history has brought is heard.
  pub record Heard (m : List ℕ) (l : Log) : Type 0 where
    pub stands : Stands L s flows v m l
    pub hears : L.Hears m s stands.state (brought l)

  -- A call keeps that.
  step : (m : List ℕ) (l : Log) (t : Step) → Heard m l → OfBytes t.call → Received L t.call m t.memory t.working t.left t.answer
      → Heard t.memory (logged s l (read s flows l t) (said t.answer))
  unfolding answering
  step m l t g b p =
      let x = g.stands.state in
      let j = found_by s x (esi_of t.call) in
      let r = reading s flows j.base (length t.working) t.call in
      let o = responds s j r in
      let (e, _, n, z) = called L s flows v m l t x g.stands.held g.stands.tracks b p in
      record {
        stands = record { state = state_after x o; held = z; tracks = n };
        hears = subst (L.Hears t.memory s (state_after x o))
            (brought_after s l r o ∙ ap brought (ap₂ (logged s l) (read_found L s flows v l t x g.stands.tracks) (sym e)))
            (p.origins s flows x (brought l) g.stands.held g.hears);
      }

  pub heard_on : (ts : List Step) (m : List ℕ) (l : Log) → Heard m l → Run L m ts → Heard (final m ts) (goes_on s flows l ts)
  heard_on [] m l g p = g
  heard_on (t ∷ ts) m l g p = heard_on ts t.memory _ (step m l t g p.0 p.1) p.2

  pub opened_heard : (scheme size w : ℕ) (m₀ m : List ℕ) (a : Result ℕ Refusal) → Opened L scheme size w flows m₀ m a → said a ≡ value 0
      → setting_of scheme size w ≡ Some s → Heard m fresh
  opened_heard scheme size w m₀ m a p e h = record {
    stands = record { state = opened s; held = p.holds s h e; tracks = fresh_tracks s (some_bytes L s flows v) };
    hears = p.origins s h e;
  }

  -- ---- The symbol call

  module _ (m : List ℕ) (qs : List Located) (b : ℕ) (g : From L s flows v m qs b) (hears : L.Hears m s (Some g.state) (brought qs)) (i : ℕ)
      (within : i < width) where
    -- What it answers, by whether the position is known.
    answers : (h : Bool) (a : Result Bool Refusal) → SymbolShown L m (esi (b + i)) a → (o : Option (Symbol E)) → symbol L s flows v m qs b g i within ≡ o
        → Finds L (found L s flows v m qs b g i within o) (shown_of a) → (a ≡ Ok h) ↔ (decoder.Accepted o × (brought qs (b + i) ≡ h))
    answers h (Ok heard) p None k f = absurd (subst IsValue f tt)
    answers h (Err r) p None k f = ((λ e. absurd (subst IsShown (sym e) tt)), (λ c. absurd c.0))
    answers h (Err r) p (Some x) k f = absurd (subst IsValue (sym f) tt)
    answers h (Ok heard) p (Some x) k f =
        let is : heard ≡ brought qs (b + i) =
        p.origin s flows (Some g.state) (brought qs) g.held hears (g.state.base + i) x heard
        (here L s flows v m qs b g i within ∙ ap (found L s flows v m qs b g i within) k) refl
        ∙ ap (λ y. brought qs (y + i)) g.base_is in
        ((λ e. (tt, sym is ∙ ap its_origin e)), (λ (_, e). ap Ok (is ∙ e)))

    -- It says h beside its 0 exactly where the position is known and the history says h of it.
    told : (h : Bool) (a : Result Bool Refusal) → SymbolShown L m (esi (b + i)) a → (a ≡ Ok h) ↔ (Known E qs (b + i) × (brought qs (b + i) ≡ h))
    told h a p =
        Iff.trans
        (answers h a p _ refl
        (subst (λ y. Finds L y (shown_of a)) (here L s flows v m qs b g i within) (p.answered.finds s flows (Some g.state) g.held)))
        (Iff.and (exactly L s flows v m qs b g i within) Iff.rfl)

    told_origin : ToldOrigin L s m qs (b + i)
    told_origin =
        let is = brought_is qs (b + i) in
        record {
          heard = λ a p. Iff.trans (told true a p) ((λ (_, e). is.0 e), (λ c. (brought_known E qs (b + i) c, is.1 c)));
          solved = λ a p.
              Iff.trans (told false a p)
              ((λ (k, e). (k, λ c. false≢true (sym e ∙ is.1 c))), (λ (k, n). (k, not_so (brought qs (b + i)) (λ e. n (is.0 e)))));
        }

  -- From the base on, up to the width; and by the position itself.
  heard_origin : (m : List ℕ) (l : Log) → Heard m l → (b : ℕ) → base_of s l ≡ Some b → (i : ℕ) → i < width → ToldOrigin L s m l (b + i)
  heard_origin m l g b e i h = go g.stands.state g.stands.held g.hears (sym g.stands.tracks.base_is ∙ e) (g.stands.tracks.from b)
    where
      go : (x : State s) → L.Holds m s flows x → L.Hears m s x (brought l) → base_in s (some_bytes L s flows v) x ≡ Some b
          → TracksFrom s (some_bytes L s flows v) l (found_by s x b) → ToldOrigin L s m l (b + i)
      go None k y n f = absurd (none-ne-some b n)
      go (Some t) k y n f = told_origin m l b (record { state = t; base_is = some-injective _ _ n; held = k; tracks = f }) y i h

  origin_at_lem : (m : List ℕ) (l : Log) → Heard m l → (b : ℕ) → base_of s l ≡ Some b → (p : ℕ) → b ≤ p → p < b + width → ToldOrigin L s m l p
  origin_at_lem m l g b e p low high =
      let at : b + (p - b) ≡ p = omega arith in
      subst (ToldOrigin L s m l) at (heard_origin m l g b e (p - b) (omega arith))

pub origins : (L : Layout) → Origins L
origins L scheme E w flows m₀ m a p e ts r =
    let (s, h) = had_setting (setting_of scheme E w) (length m₀) (sym p.answer ∙ e) in
    let v = (setting-names scheme E w s h).valid in
    (s, h, heard_origin L s flows v (final m ts) (history s flows ts) (heard_on L s flows v ts m fresh (opened_heard L s flows v scheme E w m₀ m a p e h) r))

-- ---- More calls

-- The first calls of a list run by themselves.
run_front : (L : Layout) (ts us : List Step) (m : List ℕ) → Run L m (ts ++ us) → Run L m ts
run_front L [] us m r = tt
run_front L (t ∷ ts) us m r = (r.0, r.1, run_front L ts us t.memory r.2)

pub stays_heard : (L : Layout) → StaysHeard L
stays_heard L scheme E w flows m₀ m a k z ts us r =
    let (s, h) = had_setting (setting_of scheme E w) (length m₀) (sym k.answer ∙ z) in
    let v = (setting-names scheme E w s h).valid in
    let g = opened_heard L s flows v scheme E w m₀ m a k z h in
    let before = heard_on L s flows v ts m fresh g (run_front L ts us m r) in
    let after = heard_on L s flows v (ts ++ us) m fresh g r in (
      s,
      h,
      λ b c p i j low high low' high' x sx e y sy.
          ((origin_at_lem L s flows v _ _ after c j p low' high').heard y sy).1
          (stays_after s flows p ts us (((origin_at_lem L s flows v _ _ before b i p low high).heard x sx).0 e)),
    )
