-- The header of a receiver: what reading it finds, what refusal 3 stands for, and what opening leaves.
-- Laws:
--   reading: area, working_area, numbers, found, found-joined, none_short, none_row, none-setting, Headed, headed, header-room, memory_is, setting_fits,
--     header_fits
--   a held state: header_held, setting-of, setting_held, of-header, of-joined
--   refusal 3: zeros_unopened, other_unopened, short_unopened
use Rattle.std.specs.Prelude.{◌≡◌, ◌≤◌, ◌+◌, ◌<◌, ◌-◌, ◌%◌, ◌*◌, ◌^◌, ◌&&◌}
use Rattle.words.specs.Words.{arith, ℕ, List, length, refl, ◌∙◌, sym, ap, Some, true, None, false, Bool, subst, Option}
use Rattle.words.specs.Words.{take, cond, ltb, leb, le-leb, some-injective, none-ne-some, lt-leb, lt-ltb, true≢false, leb-true, length-take}
use Rattle.words.specs.Words.{mul-le-mul}
use lib.Seq.{take-take}
use Rattle.memory.specs.Part.{part}
use Rattle.memory.specs.Number.{number}
use Rattle.wire.specs.declared.Setting.{Setting}
use Rattle.wire.specs.Packets.{zeros}
use Rattle.wire.specs.Settings.{Valid}
use Rattle.wire.specs.Stored.{setting_in}
use Rattle.wire.proofs.Settings.{both, setting-found, setting_kept, zeros-none, one_kind}
use Rattle.table.specs.Window.{header_size, stride, row_offset, Fits}
use Rattle.holding.specs.declared.Header.{Header}
use Rattle.history.specs.History.{memory_size}
use Rattle.history.specs.Model.{Joined, State}
use Rattle.holding.specs.Header.{row_in, header_with, header_in}
use Rattle.holding.specs.Layout.{header_of, Stands, Holds}

-- ---- Reading

-- The rows fit a usize.
pub area : (s : Setting) → Valid s → s.width * (s.width + s.size + 4) ≤ 448545
area s v = let j : s.width + s.size + 4 ≤ 1759 = omega (arith, v.width_most, v.size_most) in mul-le-mul v.width_most j

pub working_area : (s : Setting) → Valid s → (s.width + 1) * (s.width + s.size + 4) ≤ 450304
working_area s v =
    let i : s.width + 1 ≤ 256 = omega (arith, v.width_most) in
    let j : s.width + s.size + 4 ≤ 1759 = omega (arith, v.width_most, v.size_most) in
    mul-le-mul i j

-- The header's numbers, of a memory with a setting.
abbrev pub numbers : Setting → List ℕ → Header
numbers s m = record { setting = s; joined = ltb 0 (row_in m); oldest = row_in m - 1; esi = record { 0 = number (part 12 4 m) } }

module _ (m : List ℕ) (s : Setting) (e : setting_in 2 m ≡ Some s) where
  pub found : memory_size s ≤ length m → row_in m ≤ s.width → header_in m ≡ Some (numbers s m)
  unfolding header_in
  found a b = rw (e, le-leb (memory_size s) (length m) a, le-leb (row_in m) s.width b)

  -- With a base, whose row and ESI are these.
  pub found-joined : (r b : ℕ) → memory_size s ≤ length m → r < s.width → row_in m ≡ r + 1 → number (part 12 4 m) ≡ b
      → header_in m ≡ Some (record { setting = s; joined = true; oldest = r; esi = record { 0 = b } })
  found-joined r b a l p q =
      let x : r + 1 - 1 ≡ r = omega arith in
      found a (omega (arith, p)) ∙ rw (p, q, lt-ltb 0 (r + 1) (omega arith), x)

  pub none_short : length m < memory_size s → header_in m ≡ None
  unfolding header_in
  none_short a = rw (e, lt-leb (memory_size s) (length m) a)

  pub none_row : memory_size s ≤ length m → s.width < row_in m → header_in m ≡ None
  unfolding header_in
  none_row a b = rw (e, le-leb (memory_size s) (length m) a, lt-leb (row_in m) s.width b)

pub none-setting : (m : List ℕ) → setting_in 2 m ≡ None → header_in m ≡ None
unfolding header_in
none-setting m e = rw e

-- What a header that was found says of the memory.
pub record Headed (m : List ℕ) (h : Header) : Type 0 where
  pub setting : setting_in 2 m ≡ Some h.setting
  pub is : numbers h.setting m ≡ h
  pub valid : Valid h.setting
  pub room : memory_size h.setting ≤ length m
  pub row_lt : h.oldest < h.setting.width

pub headed : (m : List ℕ) (h : Header) → header_in m ≡ Some h → Headed m h
unfolding header_in
headed m h e = go (setting_in 2 m) refl e
  where
    of : (s : Setting) → setting_in 2 m ≡ Some s → (t : Bool) → leb (memory_size s) (length m) && leb (row_in m) s.width ≡ t
        → cond t (Some (numbers s m)) None ≡ Some h → Headed m h
    of s k false b x = absurd (none-ne-some h x)
    of s k true b x =
        let (p, q) = both (leb (memory_size s) (length m)) _ b in
        let v = (setting-found 2 m s k).named.valid in
        subst (Headed m) (some-injective _ h x)
        (record { setting = k; is = refl; valid = v; room = leb-true _ _ p; row_lt = omega (arith, leb-true (row_in m) s.width q, v.width_least) })

    go : (o : Option Setting) → setting_in 2 m ≡ o → header_with m o ≡ Some h → Headed m h
    go None k x = absurd (none-ne-some h x)
    go (Some s) k x = of s k (leb (memory_size s) (length m) && leb (row_in m) s.width) refl x

pub header-room : (m : List ℕ) (h : Header) → header_in m ≡ Some h → memory_size h.setting ≤ length m
header-room m h e = (headed m h e).room

-- The rows, and a byte for each.
pub memory_is : (s : Setting) → memory_size s ≡ row_offset s.width s.size s.width + s.width
unfolding header_size stride
memory_is s = refl

-- The memory has room for the window's rows.
pub setting_fits : (s : Setting) (m : List ℕ) → Valid s → memory_size s ≤ length m → Fits s.width s.size m
setting_fits s m v h = record {
  some_width = omega (arith, v.width_least);
  wide = v.width_most;
  some_symbol = v.size_least;
  long = v.size_most;
  room = omega (arith, h, memory_is s);
}

pub header_fits : (m : List ℕ) (h : Header) → header_in m ≡ Some h → Fits h.setting.width h.setting.size m
header_fits m h e = let k = headed m h e in setting_fits h.setting m k.valid k.room

-- ---- A state that the memory holds

pub header_held : (m : List ℕ) (h : Header) (s : Setting) (t : State s) → header_in m ≡ Some h → Holds m s t → h ≡ header_of s t
header_held m h s t e k = some-injective h (header_of s t) (sym e ∙ k.header)

pub setting-of : (s : Setting) (t : State s) → (header_of s t).setting ≡ s
setting-of s None = refl
setting-of s (Some t) = refl

pub setting_held : (m : List ℕ) (h : Header) (s : Setting) (t : State s) → header_in m ≡ Some h → Holds m s t → h.setting ≡ s
setting_held m h s t e k = ap (λ (x : Header). x.setting) (header_held m h s t e k) ∙ setting-of s t

-- It has the header's setting; with the header's numbers, or no base yet.
pub of-header : (m : List ℕ) (h : Header) → header_in m ≡ Some h → (P : (s : Setting) → State s → Type 0)
    → (h.joined ≡ false → P h.setting None)
    → ((t : Joined h.setting) → Stands m h.setting t → h.joined ≡ true → h.oldest ≡ t.base % h.setting.width → h.esi.0 ≡ t.base % 2 ^ 32
    → P h.setting (Some t))
    → (s : Setting) (t : State s) → Holds m s t → P s t
of-header m h k P f g s None d =
    let i = header_held m h s None k d in
    subst (λ x. P x None) (ap (λ (x : Header). x.setting) i) (f (ap (λ (x : Header). x.joined) i))
of-header m h k P f g s (Some t) d =
    let i = header_held m h s (Some t) k d in
    subst
    (λ (x : Header).
    (t : Joined x.setting) → Stands m x.setting t → h.joined ≡ true → h.oldest ≡ t.base % x.setting.width → h.esi.0 ≡ t.base % 2 ^ 32
    → P x.setting (Some t))
    i g t d.rows (ap (λ (x : Header). x.joined) i) (ap (λ (x : Header). x.oldest) i) (ap (λ (x : Header). x.esi.0) i)

-- With a base it has the header's numbers.
pub of-joined : (m : List ℕ) (h : Header) → header_in m ≡ Some h → h.joined ≡ true → (P : (s : Setting) → State s → Type 0)
    → ((t : Joined h.setting) → Stands m h.setting t → h.oldest ≡ t.base % h.setting.width → h.esi.0 ≡ t.base % 2 ^ 32 → P h.setting (Some t))
    → (s : Setting) (t : State s) → Holds m s t → P s t
of-joined m h k j P g = of-header m h k P (λ i. absurd (true≢false (sym j ∙ i))) (λ t d _ a b. g t d a b)

-- ---- What refusal 3 stands for

-- All-zero memory.
pub zeros_unopened : (n : ℕ) → header_in (zeros n) ≡ None
zeros_unopened n = none-setting (zeros n) (zeros-none 2 n (omega arith))

-- Memory with the header of another kind of end, as a sender's, which is 1.
pub other_unopened : (kind : ℕ) (m : List ℕ) (s : Setting) → (kind ≡ 2 → ⊥) → setting_in kind m ≡ Some s → header_in m ≡ None
other_unopened kind m s h e = none-setting m (one_kind kind 2 m s h e)

-- Memory of a receiver cut shorter than opening asked.
pub short_unopened : (m : List ℕ) (h : Header) (n : ℕ) → header_in m ≡ Some h → n < memory_size h.setting → header_in (take n m) ≡ None
short_unopened m h n e l = go (setting_in 2 (take n m)) refl
  where
    go : (o : Option Setting) → setting_in 2 (take n m) ≡ o → header_in (take n m) ≡ None
    go None k = none-setting (take n m) k
    go (Some s) k =
        let c : length (take n m) ≤ n = simp length-take (omega arith) in
        let long = (setting-found 2 (take n m) s k).long in
        let f : setting_in 2 (take n m) ≡ setting_in 2 m = setting_kept 2 (take n m) m (take-take 8 n m (omega arith)) in
        let i : s ≡ h.setting = some-injective s h.setting (sym k ∙ f ∙ (headed m h e).setting) in
        none_short (take n m) s k (rw i (omega arith))
