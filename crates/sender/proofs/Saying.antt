-- What an outcome says, and what the packet of make_repair says, in the words of the claims.
-- Index
--   refuses, writes: what an outcome says
--   key_is, packet-is: the key, and the packet; found, draws_are: its lists of coefficients
use Rattle.std.specs.Prelude.{◌≡◌, Result, Ok, Err}
use Rattle.words.specs.Words.{arith, ℕ, List, length, refl, ◌∙◌, sym, Bool, subst}
use Rattle.words.specs.Words.{drop, length-drop}
use Rattle.memory.specs.Part.{splice}
use Rattle.wire.specs.declared.Scheme.{Scheme}
use Rattle.wire.specs.declared.Scheme.TheVariants.{Gf2, Gf256}
use Rattle.wire.specs.declared.Setting.{Setting}
use Rattle.wire.specs.Settings.{Valid}
use Rattle.wire.specs.Answers.{value, said}
use Rattle.coefficients.specs.Coefficients.{keys, all_ok, draws_of}
use Rattle.sender.specs.State.{Sender, window, window_start, header_of, Holds}
use Rattle.sender.specs.Repair.{written_key}
use Rattle.sender.specs.Calls.{Outcome, refused, repair_of}
use Rattle.sender.specs.Promises.{answer_of, draws_in, DoneWith, Follows, Draws}
use Rattle.sender.specs.Judged.{Refuses, Writes, key_in, keys_in, covered, older, packet_of}
use Rattle.sender.proofs.Combining.{symbols-of}
use Rattle.sender.proofs.Taking.{held_is}
use Rattle.sender.proofs.Running.{impossible}
use Rattle.wire.specs.declared.Refusal.{Refusal}

-- ---- what an outcome says

-- a call that came to a refusal
pub refuses : (n : ℕ) (o : Outcome) (m m' out out' : List ℕ) (r : Result ℕ Refusal) → o ≡ refused n → Follows o m out r m' out' → Refuses n (said r) m m' out out'
refuses n o m m' out out' r e f =
    let g : Follows (refused n) m out r m' out' = subst (λ x. Follows x m out r m' out') e f in
    record { answer = g.answer; memory = g.memory; output = g.output }

-- a call that wrote a packet
pub writes : (packet : List ℕ) (s : Sender) (m m' out out' : List ℕ) (r : Result ℕ Refusal) → DoneWith packet s m out r m' out' → Writes packet (said r) out out'
unfolding splice
writes packet s m m' out out' r g = record { answer = g.answer; output = g.output }

module _ (t : Setting) (v : Valid t) (flows : List ℕ) (xs : List (List ℕ)) where
  abbrev holding : Sender
  holding = record { setting = t; flows = flows; symbols = xs }

  -- the key that is written
  pub key_is : (key dt : ℕ) → written_key t.scheme key dt ≡ key_in t key dt
  key_is key dt = go t.scheme refl
    where
      go : (x : Scheme) → t.scheme ≡ x → written_key t.scheme key dt ≡ key_in t key dt
      go Gf2 e = rw e
      go Gf256 e = rw e

  -- the window is what is covered
  start_is : window_start holding ≡ older t xs
  start_is = omega arith

  covered_is : length (drop (older t xs) xs) ≡ covered t xs
  covered_is = length-drop (older t xs) xs ∙ omega arith

  pub packet-is : (key dt count : ℕ) → repair_of holding (written_key t.scheme key dt) dt count ≡ packet_of t xs key dt count
  packet-is key dt count =
      let e = symbols-of t.scheme dt t.size (drop (older t xs) xs) (covered t xs) covered_is (keys_in t key dt count) in
      rw (key_is key dt, held_is holding, start_is, ← e)

  -- the lists of coefficients
  pub found : (key dt count : ℕ) (b : Bool) → all_ok t.scheme dt (covered t xs) (keys_in t key dt count) ≡ b
      → all_ok t.scheme dt (length (window holding)) (keys (written_key t.scheme key dt) count) ≡ b
  found key dt count b e = rw (key_is key dt, held_is holding) e

  pub draws_are : (key dt count : ℕ) (m out' : List ℕ) (r : Result (ℕ × ℕ) Refusal) (n : ℕ) → Holds m holding → Draws key dt count m out' r → said (answer_of r) ≡ value n
      → draws_in r ≡ draws_of t.scheme dt (covered t xs) (keys_in t key dt count)
  draws_are key dt count m out' (Ok (k, d)) n h p e = rw (key_is key dt, held_is holding) at (p.lists (header_of holding) h.header)
  draws_are key dt count m out' (Err k) n h p e = absurd (impossible n _ (sym e))
