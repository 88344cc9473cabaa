-- From what the code reads in the memory to what the ADU call promises: one law for each answer.
-- What the window knows: known_is, known_all, known-not, known_beyond.
-- What has been read: Read, Whole, whole_is, spans.
-- The answers: no_start, first_unknown, too_many, another_unknown, not-padded, stray, no_room, hands_out.
use Rattle.std.specs.Prelude.{◌≡◌, ◌≤◌, ◌+◌, ◌<◌, ◌-◌, ◌%◌, ◌≢◌, Result, Ok, Err}
use Rattle.words.specs.Words.{arith, ℕ, List, length, refl, ◌∙◌, sym, ap, Some, true, None, get_or, false, Bool, subst, Option}
use Rattle.words.specs.Words.{drop, ap₂, leb, mod-lt, le-leb, lt-leb, mod-add-mod}
use Rattle.memory.specs.Part.{part, splice}
use Rattle.memory.specs.Number.{number, Bytes}
use Rattle.memory.proofs.Parts.{length_part, length-splice, past-splice}
use Rattle.wire.specs.declared.Refusal.{Refusal}
use Rattle.wire.specs.declared.Refusal.TheVariants.{Short, Unannounced, Unknown, NoStart, Padding}
use Rattle.wire.specs.Numbers.{number_of}
use Rattle.wire.specs.Flows.{announced, flows_in}
use Rattle.wire.specs.Packets.{symbol_count}
use Rattle.decoder.specs.Bytes.{Coded}
use Rattle.decoder.specs.Model.{State}
use Rattle.table.specs.Window.{row_offset, Window, Fits}
use Rattle.placing.specs.Place.{KnownAt}
use Rattle.placing.proofs.Showing.{symbol_bytes}
use Rattle.starts.specs.Adu.{joint, need, Handing, hands, withholds, length_in, flow_in, all_zero, unpack, begin, handing, HandedAs}
use Rattle.starts.specs.Starts.{Starts, shown, seen}
use Rattle.marks.specs.Marks.{marked, Marks}
use Rattle.handing.specs.Promises.{HandedOut}
use Rattle.handing.specs.HandSteps.{symbol_offset, symbol_in, text, AllKnown, Spans}
use Rattle.starts.proofs.Unseen.{known_past}
use Rattle.handing.proofs.Texts.{joint-none, joint-text, text-length, text_flow, text_size, symbol_size}
use Rattle.handing.proofs.Copying.{span_some, span_end}

-- ---- What the window knows

module _ (w E oldest : ℕ) (m : List ℕ) where
  -- The i-th position is known, by its row; and so are the first i from the d-th on.
  abbrev pub PositionKnown : ℕ → Bool → Type 0
  PositionKnown i t = KnownAt w E ((oldest + i) % w) t m

  abbrev pub KnownFrom : (d i : ℕ) → Type 0
  KnownFrom d i = (j : ℕ) → j < i → PositionKnown (d + j) true

  -- As the code finds it.
  pub known_is : (i r : ℕ) (t t' : Bool) → r ≡ (oldest + i) % w → t ≡ t' → KnownAt w E r t m → PositionKnown i t'
  known_is i r t t' e q k = subst (λ x. KnownAt w E x t' m) e (subst (λ x. KnownAt w E r x m) q k)

module _ (w E oldest : ℕ) (m : List ℕ) (fits : Fits w E m) (f : Bytes m) where
  module _ (b : ℕ) (S : State (Coded E) w) (e : b % w ≡ oldest) (v : Window w E m b S) where
    row_same : (i : ℕ) → (b + i) % w ≡ (oldest + i) % w
    row_same i = sym (mod-add-mod b w i) ∙ ap (λ x. (x + i) % w) e

    see_known : (i : ℕ) → i < w → PositionKnown w E oldest m i true → seen E w S i ≡ Some (symbol_in w E oldest m i)
    see_known i l k =
        ap (shown E) (k b i S l (row_same i) v)
        ∙ ap Some (symbol_bytes w E ((oldest + i) % w) m fits (mod-lt (oldest + i) fits.some_width) f)

    see_unknown : (i : ℕ) → i < w → PositionKnown w E oldest m i false → seen E w S i ≡ None
    see_unknown i l k = ap (shown E) (k b i S l (row_same i) v)

    see_past : (i : ℕ) → w ≤ i → seen E w S i ≡ None
    see_past i l = ap (shown E) (known_past S i l)

  pub known_all : (d n i : ℕ) → d + n ≤ w → i ≡ n → KnownFrom w E oldest m d i → AllKnown w E oldest d n true m
  known_all d n i l q k = (
    l,
    λ b S e v.
        joint-text w E oldest m (seen E w S) d n
        (λ j a c.
        let s : d + (j - d) ≡ j = omega arith in
        see_known b S e v j (omega arith) (subst (λ x. PositionKnown w E oldest m x true) s (k (j - d) (omega arith)))),
  )

  pub known-not : (d n i : ℕ) → d + n ≤ w → i < n → PositionKnown w E oldest m (d + i) false → AllKnown w E oldest d n false m
  known-not d n i l h k = λ b S e v. joint-none (seen E w S) d n (d + i) (omega arith) (omega arith) (see_unknown b S e v (d + i) (omega arith) k)

  pub known_beyond : (d n : ℕ) → d < w → w - d < n → AllKnown w E oldest d n false m
  known_beyond d n l h = λ b S e v. joint-none (seen E w S) d n w (omega arith) (omega arith) (see_past b S e v w (omega arith))

-- ---- The answers

-- What the code has read when it knows the first symbol: L stands in it, at `at`, and needs n symbols.
pub record Read (w E oldest d : ℕ) (m : List ℕ) (at L n : ℕ) : Type 0 where
  pub fits : Fits w E m
  pub bytes : Bytes m
  pub inside : d < w
  pub start : marked w E oldest m d ≡ true
  pub first : PositionKnown w E oldest m d true
  pub here : at ≡ symbol_offset w E oldest d
  pub end : at + E ≤ row_offset w E w
  pub size : L ≡ number (part (at + 1) 2 m)
  pub short : L ≤ 65535
  pub count : n ≡ symbol_count E L

-- And when it knows all of them.
pub record Whole (w E oldest d : ℕ) (m : List ℕ) (at L n : ℕ) : Type 0 where
  pub read : Read w E oldest d m at L n
  pub few : n ≤ w
  pub all : AllKnown w E oldest d n true m

pub whole_is : {w E oldest d at L n : ℕ} {m : List ℕ} → Read w E oldest d m at L n → n ≤ w → (t : Bool) → t ≡ true → AllKnown w E oldest d n t m
    → Whole w E oldest d m at L n
whole_is {w} {E} {oldest} {d} {n = n} {m} r few t q a = record { read = r; few = few; all = subst (λ x. AllKnown w E oldest d n x m) q a }

pub spans : {w E oldest d at L n : ℕ} {m : List ℕ} → Whole w E oldest d m at L n → Spans w E d n L
spans k = record { within = k.all.0; count = k.read.count; short = k.read.short }

-- The number of a refusal, 0 of an ADU.
abbrev reason : Result (ℕ × ℕ) Refusal → ℕ
reason (Ok (flow, L)) = 0
reason (Err x) = number_of x

-- What the call comes to, by what the memory holds.
abbrev Comes : (w E oldest d : ℕ) (m : List ℕ) (room : ℕ) → Handing → Type 0
Comes w E oldest d m room h = (b : ℕ) (S : State (Coded E) w) (M : Starts) → b % w ≡ oldest → Window w E m b S → Marks w E oldest m M
    → handing E w (flows_in m) room M (seen E w S) d ≡ h

refused : (w E oldest d : ℕ) (m out : List ℕ) (x : Refusal) → number_of x ≢ 3 → Comes w E oldest d m (length out) (withholds (number_of x))
    → HandedOut w E oldest d m out out (Err x)
refused w E oldest d m out x n c = record {
  opened = λ y q z. n (ap reason q ∙ z);
  leaves = refl;
  told = λ b S M e v k. subst (λ h. HandedAs h out out (Err x)) (sym (c b S M e v k)) (refl, refl);
}

module _ (w E oldest d : ℕ) (m out : List ℕ) where
  pub no_start : d < w → marked w E oldest m d ≡ false → HandedOut w E oldest d m out out (Err NoStart)
  unfolding handing need
  no_start h t =
      refused w E oldest d m out NoStart (λ q. absurd (omega (arith, q)))
      (λ b S M e v k. ap (λ x. need x 13 (begin E w (flows_in m) (length out) (seen E w S) d (seen E w S d))) (sym (k d (omega arith)) ∙ t))

  begun : d < w → marked w E oldest m d ≡ true → (b : ℕ) (S : State (Coded E) w) (M : Starts) → Marks w E oldest m M
      → (o : Option (List ℕ)) → seen E w S d ≡ o → handing E w (flows_in m) (length out) M (seen E w S) d ≡ begin E w (flows_in m) (length out) (seen E w S) d o
  unfolding handing need
  begun h start b S M k o x =
      ap (λ y. need y 13 (begin E w (flows_in m) (length out) (seen E w S) d (seen E w S d))) (sym (k d (omega arith)) ∙ start)
      ∙ ap (begin E w (flows_in m) (length out) (seen E w S) d) x

  pub first_unknown : Fits w E m → Bytes m → d < w → marked w E oldest m d ≡ true → PositionKnown w E oldest m d false
      → HandedOut w E oldest d m out out (Err Unknown)
  first_unknown fits f h start u =
      refused w E oldest d m out Unknown (λ q. absurd (omega (arith, q)))
      (λ b S M e v k. begun h start b S M k None (see_unknown w E oldest m fits f b S e v d h u))

  module _ (at L n : ℕ) (r : Read w E oldest d m at L n) where
    size_is : length_in (symbol_in w E oldest m d) ≡ L
    size_is = symbol_size w E oldest m r.fits d ∙ ap (λ x. number (part (x + 1) 2 m)) (sym r.here) ∙ sym r.size

    -- What is left to look at: whether there are too many symbols, and what all of them make up.
    looked : (b : ℕ) (S : State (Coded E) w) (M : Starts) → b % w ≡ oldest → Window w E m b S → Marks w E oldest m M
        → handing E w (flows_in m) (length out) M (seen E w S) d ≡ need (leb n w) 14 (unpack E w (flows_in m) (length out) (joint (seen E w S) d n))
    looked b S M e v k =
        begun r.inside r.start b S M k (Some (symbol_in w E oldest m d))
        (see_known w E oldest m r.fits r.bytes b S e v d r.inside r.first)
        ∙ ap (λ x. need (leb x w) 14 (unpack E w (flows_in m) (length out) (joint (seen E w S) d x))) (ap (symbol_count E) size_is ∙ sym r.count)

    pub too_many : w < n → HandedOut w E oldest d m out out (Err Padding)
    unfolding need
    too_many h =
        refused w E oldest d m out Padding (λ q. absurd (omega (arith, q)))
        (λ b S M e v k. looked b S M e v k ∙ ap (λ x. need x 14 (unpack E w (flows_in m) (length out) (joint (seen E w S) d n))) (lt-leb n w h))

    unpacked : n ≤ w → (b : ℕ) (S : State (Coded E) w) (M : Starts) → b % w ≡ oldest → Window w E m b S → Marks w E oldest m M
        → (o : Option (List ℕ)) → joint (seen E w S) d n ≡ o → handing E w (flows_in m) (length out) M (seen E w S) d ≡ unpack E w (flows_in m) (length out) o
    unfolding need
    unpacked few b S M e v k o q =
        looked b S M e v k ∙ ap (λ x. need x 14 (unpack E w (flows_in m) (length out) (joint (seen E w S) d n))) (le-leb n w few)
        ∙ ap (unpack E w (flows_in m) (length out)) q

    pub another_unknown : n ≤ w → (t : Bool) → t ≡ false → AllKnown w E oldest d n t m → HandedOut w E oldest d m out out (Err Unknown)
    another_unknown few t q a =
        refused w E oldest d m out Unknown (λ q. absurd (omega (arith, q)))
        (λ b S M e v k. unpacked few b S M e v k None (subst (λ x. AllKnown w E oldest d n x m) q a b S e v))

  module _ (at L n : ℕ) (k : Whole w E oldest d m at L n) where
    abbrev x : List ℕ
    x = text w E oldest m d n

    abbrev fits : Fits w E m
    fits = k.read.fits

    some-symbols : 0 < n
    some-symbols = span_some w E d n L fits.some_symbol (spans k)

    -- What is left when L is found: the checks after the padding, and what is handed out.
    abbrev given : (L : ℕ) → Handing
    given L = need (leb L (length out)) 2 (hands (flow_in x) (part 3 L x))

    abbrev checked : (L : ℕ) → Handing
    checked L = need (announced (flows_in m) (flow_in x)) 16 (given L)

    flow_is : flow_in x ≡ get_or m at 0
    flow_is = text_flow w E oldest m fits d n some-symbols ∙ ap (λ y. get_or m y 0) (sym k.read.here)

    opened : Comes w E oldest d m (length out) (need (all_zero (drop (3 + L) x)) 14 (checked L))
    opened b S M e v c =
        unpacked at L n k.read k.few b S M e v c (Some x) (k.all.1 b S e v)
        ∙ ap (λ l. need (all_zero (drop (3 + l) x)) 14 (checked l))
        (text_size w E oldest m fits d n some-symbols ∙ size_is at L n k.read)

    pub not-padded : all_zero (drop (3 + L) x) ≡ false → HandedOut w E oldest d m out out (Err Padding)
    unfolding need
    not-padded t =
        refused w E oldest d m out Padding (λ q. absurd (omega (arith, q)))
        (λ b S M e v c. opened b S M e v c ∙ ap (λ y. need y 14 (checked L)) t)

    padded : all_zero (drop (3 + L) x) ≡ true → (g : Bool) → announced (flows_in m) (get_or m at 0) ≡ g → Comes w E oldest d m (length out) (need g 16 (given L))
    unfolding need
    padded t g a b S M e v c =
        opened b S M e v c ∙ ap (λ y. need y 14 (checked L)) t ∙ ap (λ y. need y 16 (given L)) (ap (announced (flows_in m)) flow_is ∙ a)

    pub stray : all_zero (drop (3 + L) x) ≡ true → announced (flows_in m) (get_or m at 0) ≡ false → HandedOut w E oldest d m out out (Err Unannounced)
    unfolding need
    stray t a = refused w E oldest d m out Unannounced (λ q. absurd (omega (arith, q))) (padded t false a)

    pub no_room : all_zero (drop (3 + L) x) ≡ true → announced (flows_in m) (get_or m at 0) ≡ true → length out < L
        → HandedOut w E oldest d m out out (Err Short)
    unfolding need
    no_room t a h =
        refused w E oldest d m out Short (λ q. absurd (omega (arith, q)))
        (λ b S M e v c. padded t true a b S M e v c ∙ ap (λ y. need y 2 (hands (flow_in x) (part 3 L x))) (lt-leb L (length out) h))

    pub hands_out : all_zero (drop (3 + L) x) ≡ true → announced (flows_in m) (get_or m at 0) ≡ true → L ≤ length out
        → (out' : List ℕ) → out' ≡ splice 0 (part 3 L x) out → HandedOut w E oldest d m out out' (Ok (get_or m at 0, L))
    unfolding need splice
    hands_out t a h out' q =
        let size : length (part 3 L x) ≡ L =
        length_part 3 L x (omega (arith, text-length w E oldest m fits d n, span_end w E d n L fits.some_symbol (spans k))) in
        record {
          opened = λ y q z. absurd (omega (arith, ap reason q, z));
          leaves = (
            k.read.short,
            h,
            ap length q ∙ length-splice 0 (part 3 L x) out (omega arith),
            ap (drop L) q ∙ past-splice L 0 (part 3 L x) out (omega arith) (omega arith),
          );
          told = λ b S M e v c.
              subst (λ y. HandedAs y out out' (Ok (get_or m at 0, L)))
              (sym (padded t true a b S M e v c ∙ ap (λ y. need y 2 (hands (flow_in x) (part 3 L x))) (le-leb L (length out) h)))
              (ap₂ (λ x y. Ok (x, y)) (sym flow_is) (sym size), q);
        }
