-- Two memories that hold states which follow logs of the same packets hold one state, so the calls that show answer alike.
-- Index
--   one_state: two states that follow what the same fillings satisfy, at one base, are one
--   found_alike, shown_alike, placed_alike: by what the symbol call found; followed_alike: by what a packet call came to
--   next: so the next packet gets the same answer; heard_too: and what is heard in the one is in the other
--   handed_alike: by what the ADU call came to; adu_alike: which starts change to 13 alone
--   shown: all calls that show
use denote.Ref.{Bor}
use Rattle.std.specs.Prelude.{◌≡◌, ◌↔◌, ◌⊎◌, ◌<◌, Result, Ok, Err}
use Rattle.words.specs.Words.{ℕ, List, length, refl, ◌∙◌, sym, ap, Some, true, None, false, Bool, subst, ap₂, inl, inr, ltb}
use Rattle.words.specs.Words.{some-injective, none-ne-some}
use Rattle.memory.specs.Part.{part}
use Rattle.wire.specs.declared.Setting.{Setting}
use Rattle.wire.specs.Answers.{value, refusal, said}
use Rattle.decoder.specs.Model.{Sat}
use Rattle.decoder.specs.Receiver.{shift}
use Rattle.decoder.proofs.Bytes.{laws}
use Rattle.decoder.proofs.Canonical.{canonical}
use Rattle.starts.specs.Adu.{Handing, hands, withholds, need, handing, HandedAs}
use Rattle.starts.specs.Starts.{Starts}
use Rattle.history.specs.History.{Filling, All, Side, behind, ahead, side_of, Log, base_of}
use Rattle.history.specs.Model.{Joined, State, found_by, Outcome, refused, done, receiving, Finding, shows, hides, finding, adu_in, adu_at, Origins}
use Rattle.history.proofs.Cases.{IsRefusal, numeral}
use Rattle.history.proofs.Answers.{Tracks, TracksFrom, base_in, all}
use Rattle.receiver.specs.Answers.{shown_of, handed_said}
use Rattle.receiver.specs.Promises.{Layout, Follows, Finds, SymbolShown, Shows, Places, AduAnswered}
use Rattle.orders.specs.Orders.{HandedAlike, ShownAlike, NextAlike}
use Rattle.wire.specs.declared.Refusal.{Refusal}

-- ---- One state

module _ (s : Setting) (some_bytes : 0 < s.size) where
  open s use {size as E, width}

  -- Every filling of the one window is one of the other.
  carried : (l k : Log) (t u : Joined s) → TracksFrom s some_bytes l t → TracksFrom s some_bytes k u → t.base ≡ u.base
      → ((f : Filling E) → All E l f → All E k f) → (x : Filling E) → Sat t.window x → Sat u.window x
  carried l k t u a b e c x h =
      let (f, g, z) = a.follows.complete x h in
      let there = (all s some_bytes k b.formed f).1 (c f ((all s some_bytes l a.formed f).0 g)) in
      subst (Sat u.window) (ap (λ i. shift i f) (sym e) ∙ z) (b.follows.sound f there)

  one-window : (l k : Log) (t u : Joined s) → TracksFrom s some_bytes l t → TracksFrom s some_bytes k u → t.base ≡ u.base
      → ((f : Filling E) → All E l f ↔ All E k f) → t ≡ u
  one-window l k t u a b e c =
      let same = canonical (laws E some_bytes) t.window u.window a.follows.rref b.follows.rref
      (λ x. (carried l k t u a b e (λ f. (c f).0) x, carried k l u t b a (sym e) (λ f. (c f).1) x)) in
      ap₂ (λ i S. record { base = i; window = S }) e same

  pub one_state : (l k : Log) (t u : State s) → Tracks s some_bytes l t → Tracks s some_bytes k u → base_of s l ≡ base_of s k
      → ((f : Filling E) → All E l f ↔ All E k f) → t ≡ u
  one_state l k t u a b e c = go t u (sym a.base_is ∙ e ∙ b.base_is) (a.from 0) (b.from 0)
    where
      go : (t u : State s) → base_in s some_bytes t ≡ base_in s some_bytes u → TracksFrom s some_bytes l (found_by s t 0)
          → TracksFrom s some_bytes k (found_by s u 0) → t ≡ u
      go None None z x y = refl
      go None (Some u) z x y = absurd (none-ne-some _ z)
      go (Some t) None z x y = absurd (none-ne-some _ (sym z))
      go (Some t) (Some u) z x y = ap Some (one-window l k t u x y (some-injective _ _ z) c)

-- ---- The symbol call, the part and the place

module _ (L : Layout) (s : Setting) where
  open s use {size as E, width}

  found_alike : (o : Finding E) (a b : Result ℕ Refusal) → Finds L o a → Finds L o b → said a ≡ said b
  found_alike (shows p v) a b x y = x ∙ sym y
  found_alike (hides k) a b x y = x ∙ sym y

  shown_alike : (o : Finding E) (memory shown memory' shown' : Bor (List ℕ)) → Shows L s o memory shown → Shows L s o memory' shown'
      → shown.now ≡ shown'.now
  shown_alike (shows p v) memory shown memory' shown' x y = x.0 ∙ sym y.0
  shown_alike (hides k) memory shown memory' shown' x y = x ∙ sym y

  placed_alike : (o : Finding E) (m n : List ℕ) (a b : Result ℕ Refusal) → Places L s o m a → Places L s o n b
      → (said a ≡ said b) × ((at : ℕ) → said a ≡ value at → part at E m ≡ part at E n)
  placed_alike (shows p v) m n a b x y = (
    x.0 ∙ sym y.0,
    λ at e. let z : L.symbol_start s p ≡ at = ap numeral (sym x.0 ∙ e) in subst (λ i. part i E m ≡ part i E n) z (x.1 ∙ sym y.1),
  )
  placed_alike (hides k) m n a b x y = (x ∙ sym y, λ at e. absurd (subst IsRefusal (sym x ∙ e) tt))

  followed_alike : (flows : List ℕ) (o : Outcome s) (m m' n n' : List ℕ) (a b : Result ℕ Refusal) → Follows L s flows o m m' a → Follows L s flows o n n' b
      → said a ≡ said b
  followed_alike flows (refused k) m m' n n' a b x y = x.0 ∙ sym y.0
  followed_alike flows (done k u) m m' n n' a b x y = x.0 ∙ sym y.0

  -- Two memories that hold one state.
  module _ (flows m n : List ℕ) (t : State s) (held : L.Holds m s flows t) (held' : L.Holds n s flows t) where
    pub next : NextAlike L m n
    next c m' n' v v' w w' a b i x y =
        followed_alike flows (receiving s flows t (length v) c) m m' n n' a b (x.follows s flows t held)
        (subst (λ k. Follows L s flows (receiving s flows t k c) n n' b) (sym i) (y.follows s flows t held'))

    -- What is heard in the one is heard in the other, where that has all that this has heard.
    module _ (H K : Origins) (hears : L.Hears m s t H) (hears' : L.Hears n s t K) (too : (p : ℕ) → H p ≡ true → K p ≡ true) (e : ℕ) where
      pub heard_too : (a b : Result Bool Refusal) → SymbolShown L m e a → SymbolShown L n e b → a ≡ Ok true → b ≡ Ok true
      heard_too a b x y z =
          go (finding s t e) refl b y (subst (Finds L (finding s t e)) (ap shown_of z) (x.answered.finds s flows t held))
          (y.answered.finds s flows t held')
        where
          go : (o : Finding E) → finding s t e ≡ o → (b : Result Bool Refusal) → SymbolShown L n e b → Finds L o (shown_of (Ok true)) → Finds L o (shown_of b)
              → b ≡ Ok true
          go (hides k) i b y f g = absurd (subst IsRefusal (sym f) tt)
          go (shows p v) i (Err r) y f g = absurd (subst IsRefusal g tt)
          go (shows p v) i (Ok h) y f g =
              let one = x.origin s flows t H held hears p v true i z in
              let other = y.origin s flows t K held' hears' p v h i refl in
              ap Ok (other ∙ too p (sym one))

-- ---- The ADU call

handed_alike : (h : Handing) (out out' out'' : List ℕ) (a b : Result (ℕ × ℕ) Refusal) → HandedAs h out out' a → HandedAs h out out'' b
    → (handed_said a ≡ handed_said b) × (out' ≡ out'')
handed_alike (hands flow adu) out out' out'' a b x y = (ap handed_said (x.0 ∙ sym y.0), x.1 ∙ sym y.1)
handed_alike (withholds k) out out' out'' (Ok (f, l)) b x y = absurd x
handed_alike (withholds k) out out' out'' (Err r) (Ok (f, l)) x y = absurd y
handed_alike (withholds k) out out' out'' (Err r) (Err q) x y = (ap refusal (x.0 ∙ sym y.0), x.1 ∙ sym y.1)

withheld_as : (k : ℕ) (out out' : List ℕ) (a : Result (ℕ × ℕ) Refusal) → HandedAs (withholds k) out out' a → handed_said a ≡ refusal k
withheld_as k out out' (Ok (f, l)) x = absurd x
withheld_as k out out' (Err r) x = ap refusal x.0

-- The same, or 13 without a start.
abbrev Alike : Handing → Handing → Type 0
Alike g h = (g ≡ h) ⊎ ((g ≡ withholds 13) ⊎ (h ≡ withholds 13))

marked_alike : (i j : Bool) (h : Handing) → Alike (need i 13 h) (need j 13 h)
unfolding need
marked_alike true true h = inl refl
marked_alike false j h = inr (inl refl)
marked_alike true false h = inr (inr refl)

inside_alike : (i : Bool) (g h : Handing) → Alike g h → Alike (need i 12 g) (need i 12 h)
unfolding need
inside_alike true g h x = x
inside_alike false g h x = inl refl

module _ (s : Setting) (flows : List ℕ) where
  open s use {size as E, width}

  side_alike : (t : Joined s) (M N : Starts) (room : ℕ) (o : Side) → Alike (adu_in s flows t M room o) (adu_in s flows t N room o)
  unfolding handing
  side_alike t M N room behind = inl refl
  side_alike t M N room (ahead d) = inside_alike (ltb d width) _ _ (marked_alike (M d) (N d) _)

  -- Whatever is marked, the ADU call comes to the same but for 13.
  adu_alike : (t : State s) (M N : Starts) (room e : ℕ) → Alike (adu_at s flows t M room e) (adu_at s flows t N room e)
  unfolding adu_at
  adu_alike None M N room e = inl refl
  adu_alike (Some t) M N room e = side_alike t M N room (side_of t.base e)

  module _ (L : Layout) (m n : List ℕ) (t : State s) (M N : Starts) (held : L.Holds m s flows t) (held' : L.Holds n s flows t)
      (marks : L.Marks m s t M) (marks' : L.Marks n s t N) (e : ℕ) where
    adus : (out out' out'' : List ℕ) (a b : Result (ℕ × ℕ) Refusal) → AduAnswered L m e out out' a → AduAnswered L n e out out'' b → HandedAlike a b out' out''
    adus out out' out'' a b x y =
        go _ _ (adu_alike t M N (length out) e) (x.hands s flows t M held marks) (y.hands s flows t N held' marks')
      where
        go : (g h : Handing) → Alike g h → HandedAs g out out' a → HandedAs h out out'' b → HandedAlike a b out' out''
        go g h (inl z) i j = inl (handed_alike h out out' out'' a b (subst (λ k. HandedAs k out out' a) z i) j)
        go g h (inr (inl z)) i j = inr (inl (withheld_as 13 out out' a (subst (λ k. HandedAs k out out' a) z i)))
        go g h (inr (inr z)) i j = inr (inr (withheld_as 13 out out'' b (subst (λ k. HandedAs k out out'' b) z j)))

-- ---- All calls that show

module _ (L : Layout) (s : Setting) (flows m n : List ℕ) (t : State s) (held : L.Holds m s flows t) (held' : L.Holds n s flows t) where
  open s use {size as E}

  pub shown : (H K : Origins) → L.Hears m s t H → L.Hears n s t K → ((p : ℕ) → H p ≡ true → K p ≡ true) → ((p : ℕ) → K p ≡ true → H p ≡ true)
      → (u : State s) (M N : Starts) → L.Holds m s flows u → L.Holds n s flows u → L.Marks m s u M → L.Marks n s u N → (e : ℕ) → ShownAlike L E m n e
  shown H K hears hears' there back u M N kept kept' marks marks' e =
      let o = finding s t e in
      let holds : (x : List ℕ) (r : Bor (List ℕ)) → r.now ≡ x → L.Holds x s flows t → L.Holds r.now s flows t =
      λ x r i h. subst (λ y. L.Holds y s flows t) (sym i) h in
      record {
        answers = λ a b x y. found_alike L s o (shown_of a) (shown_of b) (x.answered.finds s flows t held) (y.answered.finds s flows t held');
        origins = λ a b x y. (
          heard_too L s flows m n t held held' H K hears hears' there e a b x y,
          heard_too L s flows n m t held' held K H hears' hears back e b a y x,
        );
        parts = λ memory part memory' part' i x j y.
            shown_alike L s o memory part memory' part' (x.shows s flows t (holds m memory i held)) (y.shows s flows t (holds n memory' j held'));
        places = λ a b x y. placed_alike L s o m n a b (x.places s flows t held) (y.places s flows t held');
        adus = adus s flows L m n u M N kept kept' marks marks' e;
      }
