-- The ADU call hands out what the history says, after every list of calls that the promises allow.
use Rattle.std.specs.Prelude.{◌≡◌, ◌≤◌, ◌+◌, ◌<◌, ◌%◌, ◌∷◌, ◌++◌, ◌^◌, ◌↔◌, Result, Ok, Err}
use Rattle.words.specs.Words.{arith, ℕ, List, length, ◌∙◌, sym, ap, [], Some, None, true, subst, drop, take, ap₂}
use Rattle.words.specs.Words.{some-injective, none-ne-some, take-append_seam}
use mathlib.Core.Logic.Iff
use Rattle.wire.specs.declared.Setting.{Setting}
use Rattle.wire.specs.Settings.{setting_of, Valid}
use Rattle.wire.specs.Packets.{source_symbols}
use Rattle.wire.specs.Flows.{announced}
use Rattle.wire.proofs.Adui.{symbols_count}
use Rattle.wire.proofs.Settings.{setting-names}
use Rattle.starts.specs.Adu.{View, Handing, hands, withholds, handing, HandedAs}
use Rattle.starts.specs.Starts.{Starts, nowhere, seen}
use Rattle.starts.proofs.Handing.{flow_handed, adu-of, withheld, handing_exactly}
use Rattle.wire.specs.Answers.{value, said}
use Rattle.history.specs.History.{Located, reading, base_for, Log, fresh, base_of, OfBytes, esi_of, logged, Start, symbols_at}
use Rattle.history.specs.Model.{Joined, State, opened, found_by, state_after, responds, answering, marking, adu_at}
use Rattle.receiver.specs.Promises.{Layout, Opened, Received, AduAnswered}
use Rattle.history.proofs.Answers.{Tracks, TracksFrom, base_in, fresh_tracks}
use Rattle.history.proofs.Sides.{limits, adu-inside, adu-past, adu_behind}
use Rattle.history.proofs.Starting.{Sees, shown-whole, unseen, shows_held, held_shows, shows_inside, seen-outside, AreStarts, MarksTrack, fresh_marks}
use Rattle.history.proofs.Starting.{tracks_sees, marking_tracks}
use Rattle.claims.specs.Run.{Step, Run, final, read, goes_on, history}
use Rattle.claims.specs.Demand.{esi}
use Rattle.claims.specs.Handing.{Told, HoldsAdu, IsHandedOut, HandingTold, HandsOut}
use Rattle.claims.proofs.Demand.{some_bytes, read_found, read_passes, called, had_setting}
use Rattle.wire.specs.declared.Refusal.{Refusal}

-- ---- What a call returned, and what it handed out

abbrev IsAdu : Result (ℕ × ℕ) Refusal → Type 0
IsAdu (Ok (flow, L)) = Unit {0}
IsAdu (Err x) = ⊥

abbrev pub its_flow : Result (ℕ × ℕ) Refusal → ℕ
its_flow (Ok (flow, L)) = flow
its_flow (Err x) = 0

abbrev its_length : Result (ℕ × ℕ) Refusal → ℕ
its_length (Ok (flow, L)) = L
its_length (Err x) = 0

returned : (h : Handing) (out out' : List ℕ) (a : Result (ℕ × ℕ) Refusal) → HandedAs h out out' a → (flow : ℕ) (adu : List ℕ)
    → ((a ≡ Ok (flow, length adu)) × (out' ≡ adu ++ drop (length adu) out)) ↔ (h ≡ hands flow adu)
returned (hands f x) out out' a (e, o) flow adu = (
  (λ (e', o').
      let same : Ok (f, length x) ≡ Ok (flow, length adu) = sym e ∙ e' in
      let l : length x ≡ length adu = ap its_length same in
      let front : x ≡ adu =
      sym (take-append_seam x (drop (length x) out)) ∙ ap₂ take l (sym o ∙ o') ∙ take-append_seam adu (drop (length adu) out) in
      ap₂ hands (ap its_flow same) front),
  (λ h.
      let x≡ : x ≡ adu = ap adu-of h in (
        e ∙ ap₂ (λ x y. Ok (x, y)) (ap flow_handed h) (ap length x≡),
        o ∙ ap (λ (l : List ℕ). l ++ drop (length l) out) x≡,
      )),
)
returned (withholds n) out out' (Ok (f, l)) p flow adu = absurd p
returned (withholds n) out out' (Err r) p flow adu = ((λ (e, o). absurd (subst IsAdu (sym e) tt)), (λ e. absurd (withheld n flow adu e)))

-- ---- The history's words

module _ (s : Setting) (flows : List ℕ) (v : Valid s) (qs : List Located) (base : ℕ) (see : View) (M : Starts) where
  open s use {size as E, width}

  module _ (sees : Sees E qs base see) (outside : (i : ℕ) → width ≤ i → see i ≡ None) (starts : AreStarts s qs base M) where
    told : Told s qs base see M
    told = record {
      known = λ i l k f a. sees.shown i k f a;
      unknown = λ i l n. unseen E qs base see sees i n;
      outside = outside;
      starts = starts;
    }

    -- What the window hands out is what every filling holds there.
    handed_exactly : (d room : ℕ) → d < width → (flow : ℕ) (adu : List ℕ)
        → (handing E width flows room M see d ≡ hands flow adu)
        ↔ (Start s qs (base + d) × HoldsAdu s qs base (base + d) flow adu × (announced flows flow ≡ true) × (length adu ≤ room))
    handed_exactly d room l flow adu =
        let n = symbols_count flow adu E in
        Iff.trans (handing_exactly E width flows room v.size_least see (shown-whole E qs base see sees) M d flow adu) (
          (λ u.
              let i = shows_inside E qs base see sees width outside d (omega arith) (source_symbols flow adu E) u.symbols in (
                (starts d (omega arith)).0 u.marked,
                record {
                  long = u.long;
                  inside = omega (arith, i, n);
                  held = λ f a. ap (symbols_at E f (base + d)) (sym n) ∙ shows_held E qs base see sees d (source_symbols flow adu E) u.symbols f a;
                },
                u.flow_announced,
                u.fits,
              )),
          (λ (b, h, k, r). record {
            marked = (starts d (omega arith)).1 b;
            long = h.long;
            short = omega (arith, h.inside);
            flow_announced = k;
            fits = r;
            symbols = held_shows E qs base see sees d (source_symbols flow adu E) (λ f a. ap (symbols_at E f (base + d)) n ∙ h.held f a);
          }),
        )

-- ---- The calls

module _ (L : Layout) (s : Setting) (flows : List ℕ) (v : Valid s) where
  open s use {size as E, width}

  -- The memory holds a state and marks that follow the history.
  pub record Marked (m : List ℕ) (l : Log) : Type 0 where
    pub state : State s
    pub held : L.Holds m s flows state
    pub tracks : Tracks s (some_bytes L s flows v) l state
    pub starts : Starts
    pub marks : L.Marks m s state starts
    pub begun : MarksTrack s (some_bytes L s flows v) l starts

  step : (m : List ℕ) (l : Log) (t : Step) → Marked m l → OfBytes t.call → Received L t.call m t.memory t.working t.left t.answer
      → Marked t.memory (logged s l (read s flows l t) (said t.answer))
  unfolding answering
  step m l t g b p =
      let x = g.state in
      let j = found_by s x (esi_of t.call) in
      let M = g.starts in
      let r = reading s flows j.base (length t.working) t.call in
      let (e, _, n, z) = called L s flows v m l t x g.held g.tracks b p in
      let k = marking_tracks s (some_bytes L s flows v) l x (esi_of t.call) r M g.tracks (read_passes L s flows v l t x g.tracks b) g.begun in
      record {
        state = state_after x (responds s j r);
        held = z;
        tracks = n;
        starts = marking s j M r (responds s j r);
        marks = p.starts s flows x M g.held g.marks;
        begun = subst (λ a. MarksTrack s (some_bytes L s flows v) a (marking s j M r (responds s j r)))
            (ap₂ (logged s l) (read_found L s flows v l t x g.tracks) (sym e)) k;
      }

  pub marked-on : (ts : List Step) (m : List ℕ) (l : Log) → Marked m l → Run L m ts → Marked (final m ts) (goes_on s flows l ts)
  marked-on [] m l g p = g
  marked-on (t ∷ ts) m l g p = marked-on ts t.memory _ (step m l t g p.0 p.1) p.2

  pub opened-marked : (scheme size w : ℕ) (m₀ m : List ℕ) (a : Result ℕ Refusal) → Opened L scheme size w flows m₀ m a → said a ≡ value 0
      → setting_of scheme size w ≡ Some s → Marked m fresh
  opened-marked scheme size w m₀ m a p e h = record {
    state = opened s;
    held = p.holds s h e;
    tracks = fresh_tracks s (some_bytes L s flows v);
    starts = nowhere;
    marks = p.starts s h e;
    begun = fresh_marks s (some_bytes L s flows v);
  }

  -- ---- The ADU call

  adu-before : (m : List ℕ) (M : Starts) → L.Holds m s flows None → L.Marks m s None M → (e : ℕ) (out out' : List ℕ) (a : Result (ℕ × ℕ) Refusal)
      → AduAnswered L m e out out' a → HandedAs (withholds 12) out out' a
  unfolding adu_at
  adu-before m M h k e out out' a p = p.hands s flows None M h k

  module _ (m : List ℕ) (qs : List Located) (t : Joined s) (held : L.Holds m s flows (Some t)) (tracks : TracksFrom s (some_bytes L s flows v) qs t)
      (M : Starts) (marks : L.Marks m s (Some t) M) (starts : AreStarts s qs t.base M) where
    abbrev see : View
    see = seen E width t.window

    sees : Sees E qs t.base see
    sees = tracks_sees s (some_bytes L s flows v) qs t tracks

    -- What it came to.
    answered : (d : ℕ) (out out' : List ℕ) (a : Result (ℕ × ℕ) Refusal) (h : Handing) → adu_at s flows (Some t) M (length out) ((t.base + d) % 2 ^ 32) ≡ h
        → AduAnswered L m (esi (t.base + d)) out out' a → HandedAs h out out' a
    answered d out out' a h e p = subst (λ x. HandedAs x out out' a) e (p.hands s flows (Some t) M held marks)

    in_order : (d : ℕ) → d < width → (out out' : List ℕ) (a : Result (ℕ × ℕ) Refusal) → AduAnswered L m (esi (t.base + d)) out out' a
        → HandedAs (handing E width flows (length out) M see d) out out' a
    in_order d k out out' a p =
        let n = v.width_most in
        answered d out out' a (handing E width flows (length out) M see d)
        (adu-inside s flows t M (length out) d (omega (arith, limits)) (omega (arith, limits)) k) p

    handed_out : IsHandedOut L s flows m qs t.base
    handed_out =
        let outside = seen-outside E width t.window in
        record {
          see = see;
          marked = M;
          told = told s flows v qs t.base see M sees outside starts;
          calls = λ d small. record {
            behind = λ h out out' a p. answered d out out' a (withholds 8) (adu_behind s flows t M (length out) d small h) p;
            past = λ k h out out' a p. answered d out out' a (withholds 12) (adu-past s flows t M (length out) d small h k) p;
            order = in_order d;
            handed = λ k out out' a p flow adu.
                Iff.trans (returned (handing E width flows (length out) M see d) out out' a (in_order d k out out' a p) flow adu)
                (handed_exactly s flows v qs t.base see M sees outside starts d (length out) k flow adu);
          };
        }

  handing_told : (m : List ℕ) (l : Log) → Marked m l → HandingTold L s flows m l
  handing_told m l g = record {
    before = λ n. fresh-one g.state g.held g.marks (sym g.tracks.base_is ∙ n);
    after = λ b n. joined-one b n g.state g.held g.marks (sym g.tracks.base_is ∙ n) (g.tracks.from b);
  }
    where
      fresh-one : (x : State s) → L.Holds m s flows x → L.Marks m s x g.starts → base_in s (some_bytes L s flows v) x ≡ None
          → (e : ℕ) (out out' : List ℕ) (a : Result (ℕ × ℕ) Refusal) → AduAnswered L m e out out' a → HandedAs (withholds 12) out out' a
      fresh-one None h k n = adu-before m g.starts h k
      fresh-one (Some t) h k n = absurd (none-ne-some t.base (sym n))

      joined-one : (b : ℕ) → base_of s l ≡ Some b → (x : State s) → L.Holds m s flows x → L.Marks m s x g.starts
          → base_in s (some_bytes L s flows v) x ≡ Some b → TracksFrom s (some_bytes L s flows v) l (found_by s x b) → IsHandedOut L s flows m l b
      joined-one b e None h k n f = absurd (none-ne-some b n)
      joined-one b e (Some t) h k n f =
          let i : b ≡ t.base = sym (some-injective _ _ n) in
          subst (IsHandedOut L s flows m l) (sym i)
          (handed_out m l t h f g.starts k
          (subst (λ y. AreStarts s l y g.starts) (ap (λ o. base_for o b) e ∙ i) (g.begun b)))

pub hands_out : (L : Layout) → HandsOut L
hands_out L scheme E w flows m₀ m a p e ts r =
    let (s, h) = had_setting (setting_of scheme E w) (length m₀) (sym p.answer ∙ e) in
    let v = (setting-names scheme E w s h).valid in
    (s, h, handing_told L s flows v (final m ts) (history s flows ts) (marked-on L s flows v ts m fresh (opened-marked L s flows v scheme E w m₀ m a p e h) r))
