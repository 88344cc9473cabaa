-- How lines are read. That exactly the lines of the forms are read, and as what they say, is proved (Promises): a reader need not believe this.
use Rattle.std.specs.Prelude.{◌+◌, ◌-◌, ◌∷◌, ◌*◌, ◌++◌, ◌&&◌}
use Rattle.words.specs.Words.{ℕ, List, length, [], Some, None, Bool, Option, cond, ltb, leb, eqb}
use Rattle.text.specs.Text.{ascii}
use Rattle.wire.specs.Numbers.{within}
use Rattle.history.specs.History.{Call, source-call, repair-call}
use Rattle.lines.specs.Forms.{Values, longest}

-- what is made of what was read, if something was
abbrev pub on : {A B : Type 0} → Option A → (A → Option B) → Option B
on None f = None
on (Some a) f = f a

-- the first of two readings that reads
abbrev pub or : {A : Type 0} → Option A → Option A → Option A
or None b = b
or (Some a) b = Some a

-- what follows a text at the front of a line
unfoldable pub after : (text l : List ℕ) → Option (List ℕ)
after [] l = Some l
after (t ∷ text) [] = None
after (t ∷ text) (b ∷ l) = cond (eqb b t) (after text l) None

-- a number, and what follows it
pub record Numbered : Type 0 where
  pub value : ℕ
  pub rest : List ℕ

abbrev pub is_digit : ℕ → Bool
is_digit b = within 48 57 b

-- a number that has begun with v, at most `most`: it goes on as long as there are digits
unfoldable pub number_from : (most v : ℕ) → List ℕ → Option Numbered
number_from most v [] = Some (record { value = v; rest = [] })
number_from most v (b ∷ l) =
    cond (is_digit b) (cond (leb (v * 10 + (b - 48)) most) (number_from most (v * 10 + (b - 48)) l) None) (Some (record { value = v; rest = b ∷ l }))

-- a number at the front of a line, at most `most`; after a leading zero comes no other digit of it
unfoldable pub number_in : (most : ℕ) → List ℕ → Option Numbered
number_in most [] = None
number_in most (b ∷ l) = cond (is_digit b) (cond (eqb b 48) (Some (record { value = 0; rest = l })) (number_from most (b - 48) l)) None

-- the value of a hexadecimal digit, and 16 for what is none
unfoldable pub value_of : ℕ → ℕ
value_of b = cond (within 48 57 b) (b - 48) (cond (within 65 70 b) (b - 55) 16)

-- the bytes of a line that is all hexadecimal digits, two a byte
abbrev pub before : List ℕ → Option (List ℕ) → Option (List ℕ)
before x None = None
before x (Some l) = Some (x ++ l)

unfoldable pub bytes_in : List ℕ → Option (List ℕ)
bytes_in [] = Some []
bytes_in (a ∷ []) = None
bytes_in (a ∷ (b ∷ l)) =
    cond (ltb (value_of a) 16 && ltb (value_of b) 16) (before ((value_of a * 16 + value_of b) ∷ []) (bytes_in l)) None

-- what was read of a line, if nothing of it is left
abbrev pub whole : {A : Type 0} → A → (rest : List ℕ) → Option A
whole a [] = Some a
whole a (b ∷ l) = None

-- a name and a number, at most `most`
abbrev pub field_in : (name : List ℕ) (most : ℕ) → List ℕ → Option Numbered
field_in name most l = on (after name l) (number_in most)

-- the first line; no value that opens a receiver is over 1,500
unfoldable pub values_in : List ℕ → Option Values
values_in l =
    on (field_in (ascii "scheme=") 1500 l) (λ scheme.
    on (field_in (ascii " e=") 1500 scheme.rest) (λ size.
    on (field_in (ascii " width=") 1500 size.rest) (λ width.
    whole (record { scheme = scheme.value; size = size.value; width = width.value }) width.rest)))

-- a name, and bytes up to the line's end
abbrev pub packet_in : (name : List ℕ) → List ℕ → Option (List ℕ)
packet_in name l = on (after name l) bytes_in

-- the largest flow
abbrev pub most_flow : ℕ
most_flow = 255

-- a repair packet's line, and a source packet's
unfoldable pub repair_in : List ℕ → Option Call
repair_in l = on (packet_in (ascii "kind=repair packet=") l) (λ packet. Some (repair-call packet))

unfoldable pub source_in : List ℕ → Option Call
source_in l =
    on (field_in (ascii "kind=source flow=") most_flow l) (λ flow.
    on (packet_in (ascii " packet=") flow.rest) (λ packet. Some (source-call flow.value packet)))

-- a packet line
unfoldable pub call_in : List ℕ → Option Call
call_in l = cond (leb (length l) longest) (or (repair_in l) (source_in l)) None
