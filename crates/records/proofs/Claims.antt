-- What is printed of a capture is what is claimed of it.
use Rattle.std.specs.Prelude.{◌≡◌, ◌≤◌, ◌<◌, ◌∷◌, ◌&&◌}
use Rattle.words.specs.Words.{arith, ℕ, List, length, refl, ◌∙◌, sym, ap, Some, None, subst, Option, take, leb, le-leb}
use Rattle.words.specs.Words.{some-injective, length-append, leb-true}
use Rattle.wire.specs.declared.Setting.{Setting}
use Rattle.wire.specs.declared.Scheme.{Scheme}
use Rattle.wire.specs.declared.Scheme.TheVariants.{Gf2, Gf256}
use Rattle.wire.specs.Settings.{scheme_number, setting_of}
use Rattle.wire.proofs.Settings.{both, setting-named, Named, setting-names}
use Rattle.flows.proofs.Bits.{all_announced}
use Rattle.history.specs.History.{memory_size, working_size, fresh}
use Rattle.history.specs.Model.{opened}
use Rattle.history.proofs.Answers.{fresh_tracks}
use Rattle.text.proofs.Decimals.{decimal-length}
use Rattle.printing.specs.Printed.{last_line}
use Rattle.lines.specs.Lines.{lines_of}
use Rattle.lines.specs.Forms.{Values, first_line, longest}
use Rattle.lines.specs.Reading.{on, values_in}
use Rattle.lines.proofs.Options.{cond_some, on_some}
use Rattle.lines.proofs.Promises.{read_exactly}
use Rattle.records.specs.Records.{room, most_lines, total, summary}
use Rattle.records.specs.Replay.{records_from, fitting, setting_with, setting_named, printed_with, printed_lines, printed}
use Rattle.records.specs.Claims.{values_of, Opens, Printing, Prints}
use Rattle.records.proofs.Steps.{all_counted}
use Rattle.records.proofs.Judging.{records, records_once}

-- ---- First lines

fits : (s s' : Setting) → fitting s ≡ Some s' → (s ≡ s') × (memory_size s ≤ room) × (working_size s ≤ room)
fits s s' e =
    let (t, same) = cond_some (leb (memory_size s) room && leb (working_size s) room) (Some s) s' e in
    let (m, w) = both (leb (memory_size s) room) (leb (working_size s) room) t in
    (some-injective _ _ same, leb-true (memory_size s) room m, leb-true (working_size s) room w)

values_of_lem : (v : Values) (s : Setting) → Named v.scheme v.size v.width s → v ≡ values_of s
values_of_lem v s n = λ i. record { scheme = sym n.scheme i; size = sym n.size i; width = sym n.width i }

opens : (l : List ℕ) (s : Setting) → setting_named l ≡ Some s → Opens l s
unfolding setting_named
opens l s e =
    let (_, e₁) = cond_some (leb (length l) longest) (on (values_in l) setting_with) s e in
    let (v, ev, e₂) = on_some (values_in l) setting_with s e₁ in
    let (s₁, es, e₃) = on_some (setting_of v.scheme v.size v.width) fitting s e₂ in
    let (same, m, w) = fits s₁ s e₃ in
    let named = setting-names v.scheme v.size v.width s (es ∙ ap Some same) in
    record {
      text = ((read_exactly.values l v).0 ev).0 ∙ ap first_line (values_of_lem v s named);
      valid = named.valid;
      memory = subst (λ x. memory_size x ≤ room) same m;
      working = subst (λ x. working_size x ≤ room) same w;
    }

-- a first line is short
first_short : (v : Values) → v.scheme ≤ 1500 → v.size ≤ 1500 → v.width ≤ 1500 → length (first_line v) ≤ longest
first_short v a b c =
    simp length-append
    (omega (arith, decimal-length v.scheme (omega arith), decimal-length v.size (omega arith), decimal-length v.width (omega arith)))

scheme_small : (s : Setting) → scheme_number s.scheme ≤ 10
scheme_small s = go s.scheme
  where
    go : (f : Scheme) → scheme_number f ≤ 10
    go Gf2 = omega arith
    go Gf256 = omega arith

opened_by : (l : List ℕ) (s : Setting) → Opens l s → setting_named l ≡ Some s
unfolding setting_named
opened_by l s o =
    let v = values_of s in
    let a : v.scheme ≤ 1500 = omega (arith, scheme_small s) in
    let b : v.size ≤ 1500 = omega (arith, o.valid.size_most) in
    let c : v.width ≤ 1500 = omega (arith, o.valid.width_most) in
    let short : length l ≤ longest = rw o.text (first_short v a b c) in
    let read : values_in l ≡ Some v = (read_exactly.values l v).1 (o.text, (a, b, c)) in
    rw (le-leb (length l) longest short, read, setting-named s o.valid, le-leb (memory_size s) room o.memory, le-leb (working_size s) room o.working)

-- ---- What is printed

good : (input l : List ℕ) (packets : List (List ℕ)) (s : Setting) → lines_of input ≡ l ∷ packets → Opens l s
    → Printing s packets (printed input)
unfolding printed_lines printed_with summary
good input l packets s e o =
    let some_bytes : 0 < s.size = omega (arith, o.valid.size_least) in
    let rs = records_from s (opened s) (take most_lines packets) in
    record {
      records = rs;
      lines = rw (e, opened_by l s o);
      each = records s some_bytes (take most_lines packets) fresh (opened s) (fresh_tracks s some_bytes);
      all = all_counted rs;
    }

none-printed : (packets : List (List ℕ)) → printed_with None packets ≡ last_line 0 0 0 0
unfolding printed_with summary total
none-printed packets = refl

bad : (input l : List ℕ) (packets : List (List ℕ)) → lines_of input ≡ l ∷ packets → ((s : Setting) → ¬ Opens l s)
    → printed input ≡ last_line 0 0 0 0
unfolding printed_lines
bad input l packets e never = rw e (go (setting_named l) (λ s h. never s (opens l s h)))
  where
    go : (o : Option Setting) → ((s : Setting) → ¬ (o ≡ Some s)) → printed_with o packets ≡ last_line 0 0 0 0
    go None h = none-printed packets
    go (Some s) h = absurd (h s refl)

pub prints : Prints
unfolding printed_lines summary total
prints = record {
  settings = λ l s. (opens l s, opened_by l s);
  good = good;
  bad = bad;
  missing = λ input e. rw e;
  flows = all_announced;
  once = λ s ls rs rs'. records_once s ls fresh rs rs';
}
