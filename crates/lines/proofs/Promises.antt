-- What is promised of how lines are read (specs/Promises).
use Rattle.std.specs.Prelude.{◌≡◌, ◌≤◌, ◌∷◌, ◌++◌, ◌⊎◌}
use Rattle.words.specs.Words.{arith, ℕ, List, length, refl, ◌∙◌, ap, [], Some, None, subst, Option, leb, le-leb, some-injective}
use Rattle.words.specs.Words.{none-ne-some, inr, inl, leb-true, append-nil, ⊎_elim}
use Rattle.text.specs.Text.{ascii, decimal, hexadecimal}
use Rattle.memory.specs.Number.{Bytes}
use Rattle.history.specs.History.{Call, source-call, repair-call, OfBytes}
use Rattle.lines.specs.Forms.{Values, first_line, packet_line, longest, Says}
use Rattle.lines.specs.Reading.{or, after, Numbered, number_in, bytes_in, whole, field_in, values_in, packet_in, repair_in, most_flow, source_in, call_in}
use Rattle.lines.specs.Promises.{Small, ReadExactly}
use Rattle.lines.proofs.Options.{cond_some, on_some}
use Rattle.lines.proofs.Texts.{after_text, text-after}
use Rattle.lines.proofs.Breaks.{joined-lines}
use Rattle.lines.proofs.Decimals.{Stops, number_read, number-written}
use Rattle.lines.proofs.Hexadecimals.{bytes_read, bytes-written}

-- ---- a name and what follows it

-- a name and a number are read
field-read : (name : List ℕ) (most n : ℕ) (l : List ℕ) → n ≤ most → Stops l
    → field_in name most (name ++ (decimal n ++ l)) ≡ Some (record { value = n; rest = l })
field-read name most n l h s = rw (text-after name (decimal n ++ l)) (number_read most n l h s)

-- a name and bytes are read
packet-read : (name p : List ℕ) → Bytes p → packet_in name (name ++ hexadecimal p) ≡ Some p
packet-read name p h = rw (text-after name (hexadecimal p)) (bytes_read p h)

-- a number that was read after a name is there
field-written : (name : List ℕ) (most : ℕ) (l : List ℕ) (r : Numbered) → 9 ≤ most → field_in name most l ≡ Some r
    → (l ≡ name ++ (decimal r.value ++ r.rest)) × (r.value ≤ most)
field-written name most l r h e =
    let (t, a, n) = on_some (after name l) (number_in most) r e in
    let w = number-written most t r h n in
    (after_text name l t a ∙ ap (λ (x : List ℕ). name ++ x) w.text, w.small)

-- bytes that were read after a name are there
packet-written : (name l p : List ℕ) → packet_in name l ≡ Some p → (l ≡ name ++ hexadecimal p) × Bytes p
packet-written name l p e =
    let (t, a, n) = on_some (after name l) bytes_in p e in
    let w = bytes-written t p n in
    (after_text name l t a ∙ ap (λ (x : List ℕ). name ++ x) w.text, w.bytes)

-- ---- the first line

-- nothing was left of a line that was read
whole-some : (v w : Values) (rest : List ℕ) → whole v rest ≡ Some w → (rest ≡ []) × (v ≡ w)
whole-some v w [] e = (refl, some-injective v w e)
whole-some v w (b ∷ l) e = absurd (none-ne-some w e)

-- a first line is read
values_read : (v : Values) → Small v → values_in (first_line v) ≡ Some v
unfolding values_in
values_read v (a, b, c) =
    let last = ascii " width=" ++ decimal v.width in
    let read : field_in (ascii " width=") 1500 last ≡ Some (record { value = v.width; rest = [] })
    = rw append-nil at (field-read (ascii " width=") 1500 v.width [] c tt) in
    rw (
      field-read (ascii "scheme=") 1500 v.scheme (ascii " e=" ++ (decimal v.size ++ last)) a refl,
      field-read (ascii " e=") 1500 v.size last b refl,
      read,
    )

-- a first line that was read is one
values_written : (l : List ℕ) (v : Values) → values_in l ≡ Some v → (l ≡ first_line v) × Small v
unfolding values_in
values_written l v e =
    let (a, ea, more) = on_some (field_in (ascii "scheme=") 1500 l) _ v e in
    let (b, eb, most) = on_some (field_in (ascii " e=") 1500 a.rest) _ v more in
    let (c, ec, all) = on_some (field_in (ascii " width=") 1500 b.rest) _ v most in
    let (none_left, same) = whole-some _ v c.rest all in
    let fa = field-written (ascii "scheme=") 1500 l a (omega arith) ea in
    let fb = field-written (ascii " e=") 1500 a.rest b (omega arith) eb in
    let fc = field-written (ascii " width=") 1500 b.rest c (omega arith) ec in
    subst (λ (w : Values). (l ≡ first_line w) × Small w) same
    (cc (fa.0, fb.0, fc.0, append-nil (decimal c.value)), (fa.1, fb.1, fc.1))

-- ---- packet lines

-- one of two readings read
or_some : {A : Type 0} (o q : Option A) (a : A) → or o q ≡ Some a → (o ≡ Some a) ⊎ (q ≡ Some a)
or_some None q a e = inr e
or_some (Some x) q a e = inl e

-- a line is a call's, whose flow and packet are bytes
abbrev Written : List ℕ → Call → Type 0
Written l c = (l ≡ packet_line c) × OfBytes c

-- a repair packet's line that was read is one
repair-written : (l : List ℕ) (c : Call) → repair_in l ≡ Some c → Written l c
unfolding repair_in
repair-written l c e =
    let (p, read, same) = on_some (packet_in (ascii "kind=repair packet=") l) _ c e in
    subst (Written l) (some-injective (repair-call p) c same) (packet-written (ascii "kind=repair packet=") l p read)

-- and so is a source packet's
source-written : (l : List ℕ) (c : Call) → source_in l ≡ Some c → Written l c
unfolding source_in
source-written l c e =
    let (r, flow, more) = on_some (field_in (ascii "kind=source flow=") most_flow l) _ c e in
    let (p, packet, same) = on_some (packet_in (ascii " packet=") r.rest) _ c more in
    let f = field-written (ascii "kind=source flow=") most_flow l r (omega arith) flow in
    let w = packet-written (ascii " packet=") r.rest p packet in
    subst (Written l) (some-injective (source-call r.value p) c same) (cc (f.0, w.0), (omega (arith, f.1), w.1))

-- a source packet's line is no repair packet's
other_kind : (l : List ℕ) → after (ascii "kind=repair packet=") (ascii "kind=source flow=" ++ l) ≡ None
unfolding after
other_kind l = refl

-- a call's line is read
call-read : (c : Call) → OfBytes c → or (repair_in (packet_line c)) (source_in (packet_line c)) ≡ Some c
unfolding repair_in source_in
call-read (repair-call p) h = rw (packet-read (ascii "kind=repair packet=") p h)
call-read (source-call flow p) h =
    rw (
      other_kind (decimal flow ++ (ascii " packet=" ++ hexadecimal p)),
      field-read (ascii "kind=source flow=") most_flow flow (ascii " packet=" ++ hexadecimal p) (omega arith) refl,
      packet-read (ascii " packet=") p h.1,
    )

-- with the length of the line: what was read is said
says : (l : List ℕ) (c : Call) → call_in l ≡ Some c → Says l c
unfolding call_in
says l c e =
    let (t, o) = cond_some (leb (length l) longest) _ c e in
    let w = ⊎_elim (repair-written l c) (source-written l c) (or_some (repair_in l) (source_in l) c o) in
    record { text = w.0; bytes = w.1; short = leb-true (length l) longest t }

-- and what is said is read
said : (l : List ℕ) (c : Call) → Says l c → call_in l ≡ Some c
unfolding call_in
said l c s = rw (le-leb (length l) longest s.short, s.text) (call-read c s.bytes)

pub read_exactly : ReadExactly
read_exactly = record {
  lines = joined-lines;
  values = λ l v. (values_written l v, λ h. rw h.0 (values_read v h.1));
  calls = λ l c. (says l c, said l c);
}
