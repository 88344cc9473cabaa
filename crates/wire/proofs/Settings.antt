-- What refusals 1 and 3 stand for: which numbers name a setting, and in which memory a header keeps one.
-- three numbers: within_true, within_bounds, both; setting-named, setting-names (record Named)
-- the header: short_none, other_none, header_read; zeros-none, one_kind; setting-found (record Headed); setting-written, setting_kept
-- answers told apart: setting_good, setting_bad
-- the calls for sizes of memory: size_valid, size_given, size_refused
use Rattle.std.specs.Prelude.{◌≡◌, ◌≤◌, ◌<◌, ◌*◌, ◌^◌, ◌&&◌, Ok, Err}
use Rattle.words.specs.Words.{arith, ℕ, List, length, refl, ◌∙◌, sym, ap, Some, suc, true, zero, None, false, Bool, subst, take, leb}
use Rattle.words.specs.Words.{eqb, le-leb, some-injective, none-ne-some, lt-leb, ne_eqb, zero-add, eq-eqb, leb-true, lit<, eqb-true}
use Rattle.words.specs.Words.{length-take, eqb-false, Option, ap₂}
use Rattle.std.proofs.Common.{leb-false}
use Rattle.memory.specs.Part.{part, splice}
use Rattle.memory.specs.Number.{number}
use Rattle.memory.proofs.Parts.{part-part}
use Rattle.memory.proofs.Number.{number-bytes}
use Rattle.wire.specs.declared.Scheme.{Scheme}
use Rattle.wire.specs.declared.Scheme.TheVariants.{Gf2, Gf256}
use Rattle.wire.specs.declared.Setting.{Setting}
use Rattle.wire.specs.declared.Refusal.TheVariants.{Values}
use Rattle.wire.specs.Numbers.{within}
use Rattle.wire.specs.Answers.{value}
use Rattle.wire.specs.Opening.{SizeAnswered}
use Rattle.wire.specs.Packets.{zeros}
use Rattle.wire.specs.Settings.{scheme_number, scheme_of, in_range, setting_of, Valid}
use Rattle.wire.specs.Stored.{field, setting_in, setting_bytes}

-- ---- three numbers

pub within_true : (low high x : ℕ) → low ≤ x → x ≤ high → within low high x ≡ true
within_true low high x l h = rw (le-leb low x l, le-leb x high h)

-- the numbers of a valid setting name it
pub setting-named : (s : Setting) → Valid s → setting_of (scheme_number s.scheme) s.size s.width ≡ Some s
unfolding setting_of in_range
setting-named s v = go s.scheme refl
  where
    go : (f : Scheme) → s.scheme ≡ f → setting_of (scheme_number s.scheme) s.size s.width ≡ Some s
    go Gf2 e = rw (e, within_true 4 1500 s.size v.size_least v.size_most, within_true 1 255 s.width v.width_least v.width_most)
    go Gf256 e = rw (e, within_true 4 1500 s.size v.size_least v.size_most, within_true 1 255 s.width v.width_least v.width_most)

pub both : (a b : Bool) → a && b ≡ true → (a ≡ true) × (b ≡ true)
both true b e = (refl, e)
both false b e = (e, cc)

pub within_bounds : (low high x : ℕ) → within low high x ≡ true → (low ≤ x) × (x ≤ high)
within_bounds low high x e = let p = both (leb low x) (leb x high) e in (leb-true low x p.0, leb-true x high p.1)

number-of_scheme : (n : ℕ) → 9 ≤ n → n ≤ 10 → scheme_number (scheme_of n) ≡ n
number-of_scheme n l h = go (eqb n 9) refl
  where
    go : (b : Bool) → eqb n 9 ≡ b → scheme_number (scheme_of n) ≡ n
    go true e = rw e (sym (eqb-true n 9 e))
    go false e = let f : 10 ≡ n = omega (arith, eqb-false n 9 e) in rw e f

-- what a setting has to do with the numbers that named it
pub record Named (a b c : ℕ) (s : Setting) : Type 0 where
  pub scheme : scheme_number s.scheme ≡ a
  pub size : s.size ≡ b
  pub width : s.width ≡ c
  pub valid : Valid s

named : (a b c : ℕ) → in_range a b c ≡ true → Named a b c (record { scheme = scheme_of a; size = b; width = c })
unfolding in_range
named a b c e =
    let p = both (within 9 10 a) _ e in
    let q = both (within 4 1500 b) _ p.1 in
    let x = within_bounds 9 10 a p.0 in
    let y = within_bounds 4 1500 b q.0 in
    let z = within_bounds 1 255 c q.1 in
    record {
      scheme = number-of_scheme a x.0 x.1;
      size = refl;
      width = refl;
      valid = record { size_least = y.0; size_most = y.1; width_least = z.0; width_most = z.1 };
    }

-- numbers that name a setting have their values, and are its own
pub setting-names : (a b c : ℕ) (s : Setting) → setting_of a b c ≡ Some s → Named a b c s
unfolding setting_of
setting-names a b c s e = go (in_range a b c) refl
  where
    go : (t : Bool) → in_range a b c ≡ t → Named a b c s
    go false f = absurd (none-ne-some s (rw f at e))
    go true f = subst (Named a b c) (some-injective _ s (rw f at e)) (named a b c f)

-- ---- the header

module _ (kind : ℕ) (m : List ℕ) where
  pub short_none : length m < 8 → setting_in kind m ≡ None
  unfolding setting_in
  short_none h = rw (lt-leb 8 (length m) h)

  -- memory of another kind
  pub other_none : (field 0 m ≡ kind → ⊥) → setting_in kind m ≡ None
  unfolding setting_in
  other_none h = go (leb 8 (length m)) refl
    where
      go : (b : Bool) → leb 8 (length m) ≡ b → setting_in kind m ≡ None
      go true e = rw (e, ne_eqb (field 0 m) kind h)
      go false e = rw e

  pub header_read : 8 ≤ length m → field 0 m ≡ kind → setting_in kind m ≡ setting_of (field 1 m) (field 2 m) (field 3 m)
  unfolding setting_in
  header_read h e = rw (le-leb 8 (length m) h, eq-eqb (field 0 m) kind e)

-- all_zero_bytes memory
nothing : (n : ℕ) → field 0 (zeros n) ≡ 0
unfolding field part
nothing zero = refl
nothing (suc zero) = refl
nothing (suc (suc n)) = refl

pub zeros-none : (kind n : ℕ) → 0 < kind → setting_in kind (zeros n) ≡ None
zeros-none kind n h = other_none kind (zeros n) (λ e. let z = nothing n in omega arith)

-- what a setting that was found says of the header
pub record Headed (kind : ℕ) (m : List ℕ) (s : Setting) : Type 0 where
  pub long : 8 ≤ length m
  pub kinds : field 0 m ≡ kind
  pub named : Named (field 1 m) (field 2 m) (field 3 m) s

pub setting-found : (kind : ℕ) (m : List ℕ) (s : Setting) → setting_in kind m ≡ Some s → Headed kind m s
unfolding setting_in
setting-found kind m s e = go (leb 8 (length m) && eqb (field 0 m) kind) refl
  where
    go : (t : Bool) → leb 8 (length m) && eqb (field 0 m) kind ≡ t → Headed kind m s
    go false f = absurd (none-ne-some s (rw f at e))
    go true f =
        let p = both (leb 8 (length m)) (eqb (field 0 m) kind) f in
        record {
          long = leb-true 8 (length m) p.0;
          kinds = eqb-true (field 0 m) kind p.1;
          named = setting-names (field 1 m) (field 2 m) (field 3 m) s (rw f at e);
        }

-- memory in which an end of one kind finds its setting is no other kind's
pub one_kind : (kind other : ℕ) (m : List ℕ) (s : Setting) → (kind ≡ other → ⊥) → setting_in kind m ≡ Some s → setting_in other m ≡ None
one_kind kind other m s h e = other_none other m (λ f. h (sym (setting-found kind m s e).kinds ∙ f))

small : (f : Scheme) → scheme_number f < 256 ^ 2
small Gf2 = lit< tt
small Gf256 = lit< tt

-- a header that was written reads as its setting
pub setting-written : (kind : ℕ) (s : Setting) (m : List ℕ) → kind < 65536 → Valid s → setting_in kind (splice 0 (setting_bytes kind s) m) ≡ Some s
unfolding setting_bytes field part splice
setting-written kind s m k v =
    header_read kind (splice 0 (setting_bytes kind s) m) (omega arith) (number-bytes 2 kind k)
    ∙ rw (number-bytes 2 (scheme_number s.scheme) (small s.scheme), number-bytes 2 s.size (omega arith), number-bytes 2 s.width (omega arith))
    (setting-named s v)

-- the header is the first eight bytes
field_front : (i : ℕ) (m : List ℕ) → i < 4 → field i (take 8 m) ≡ field i m
unfolding field part
field_front i m h = ap number (rw zero-add at (part-part 0 8 (2 * i) 2 m (omega arith)))

long_front : (m : List ℕ) → leb 8 (length (take 8 m)) ≡ leb 8 (length m)
long_front m = go (leb 8 (length m)) refl
  where
    go : (b : Bool) → leb 8 (length m) ≡ b → leb 8 (length (take 8 m)) ≡ b
    go true e = le-leb 8 (length (take 8 m)) (simp length-take (omega (arith, leb-true 8 (length m) e)))
    go false e = lt-leb 8 (length (take 8 m)) (simp length-take (omega (arith, leb-false 8 (length m) e)))

front : (kind : ℕ) (m : List ℕ) → setting_in kind (take 8 m) ≡ setting_in kind m
unfolding setting_in
front kind m =
    rw (long_front m, field_front 0 m (omega arith), field_front 1 m (omega arith), field_front 2 m (omega arith), field_front 3 m (omega arith))

pub setting_kept : (kind : ℕ) (m m' : List ℕ) → take 8 m ≡ take 8 m' → setting_in kind m ≡ setting_in kind m'
setting_kept kind m m' e = sym (front kind m) ∙ ap (setting_in kind) e ∙ front kind m'

-- ---- what an answer that was told apart says

pub setting_good : (o : Option Setting) (t : Setting) {r : Option Setting} → r ≡ o → r ≡ Some t → o ≡ Some t
setting_good None t e f = cc
setting_good (Some x) t e f = cc

pub setting_bad : (o : Option Setting) {r : Option Setting} → r ≡ o → r ≡ None → o ≡ None
setting_bad None e f = refl
setting_bad (Some x) e f = cc

-- ---- the calls for sizes of memory, which ask for a setting of scheme 10

module _ (E width : ℕ) {r : Option Setting} (e : r ≡ setting_of 10 E width) where
  asked : (s : Setting) → r ≡ Some s → Named 10 E width s
  asked s g = setting-names 10 E width s (setting_good _ s e g)

  pub size_valid : (s : Setting) → r ≡ Some s → Valid s
  size_valid s g = (asked s g).valid

  pub size_given : (bytes : (size width : ℕ) → ℕ) (s : Setting) → r ≡ Some s → (n : ℕ) → n ≡ bytes s.size s.width
      → SizeAnswered (bytes E width) E width (Ok n)
  size_given bytes s g n b =
      let a = asked s g in
      let v = a.valid in
      record {
        given = λ h. ap value (b ∙ ap₂ bytes a.size a.width);
        refused = λ h. absurd (h (omega (arith, a.size, a.width)));
      }

  pub size_refused : (bytes : ℕ) → r ≡ None → SizeAnswered bytes E width (Err Values)
  size_refused bytes b = record {
    given = λ h.
        let s : Setting = record { scheme = Gf256; size = E; width = width } in
        let v : Valid s = record { size_least = omega arith; size_most = omega arith; width_least = omega arith; width_most = omega arith } in
        absurd (none-ne-some s (sym (setting_bad _ e b) ∙ setting-named s v));
    refused = λ h. refl;
  }
