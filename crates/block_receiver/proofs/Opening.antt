-- Opening: what it answers, and that the memory it leaves holds a block of which nothing was received.
-- Laws: opening_bad, opening-refused, opening_done.
use Rattle.std.specs.Prelude.{◌≡◌, ◌≤◌, Result, Ok, Err}
use Rattle.words.specs.Words.{arith, ℕ, length, List, refl, ◌∙◌, sym, ap, Some, true, false, Bool, subst, cond, ltb, lt-leb, le-leb, ltb-true, ltb-false}
use Rattle.memory.specs.Part.{splice}
use Rattle.memory.specs.Contained.{Contained}
use Rattle.memory.proofs.Parts.{length-splice, past-splice, get_or-past}
use Rattle.wire.specs.declared.Refusal.{Refusal}
use Rattle.wire.specs.Numbers.{number_of}
use Rattle.wire.specs.Answers.{value, refusal, said}
use Rattle.wire.specs.Settings.{setting_of}
use Rattle.wire.specs.Stored.{setting_bytes}
use Rattle.wire.proofs.Settings.{setting-named}
use Rattle.decoder.proofs.Bytes.{laws}
use Rattle.decoder.proofs.History.{empty_rref}
use Rattle.table.proofs.Offsets.{header-long}
use Rattle.table.proofs.Holding.{window-header}
use Rattle.history.specs.History.{IsValue, memory_size}
use Rattle.history.proofs.Cases.{IsRefusal}
use Rattle.holding.proofs.Headers.{setting_fits}
use Rattle.origins.proofs.Hearing.{hears_same}
use Rattle.receiver.specs.Layout.{receiver_layout}
use Rattle.blocks.specs.declared.Block.{Block}
use Rattle.blocks.specs.Block.{block_of, setting_for, Valid}
use Rattle.blocks.specs.Stored.{block_bytes}
use Rattle.blocks.proofs.Values.{block_from, good_names, setting_valid}
use Rattle.blocks.proofs.Stored.{block_written}
use Rattle.block_receiver.specs.Promises.{opening, Opened}
use Rattle.block_receiver.specs.Layout.{Holds, Hears, block_layout}
use Rattle.block_receiver.specs.Model.{opened}
use Rattle.history.specs.Model.{unheard}
use Rattle.receiver.specs.Promises as receiver

module _ (E k total number : ℕ) (m : List ℕ) where
  refused-with : (x : Refusal) → said (Err x) ≡ opening (block_of E k total number) (length m) → Opened block_layout E k total number m m (Err x)
  refused-with x e = record {
    answer = e;
    refused = λ n q. refl;
    contained = λ b q. record { same = refl; past = refl };
    holds = λ b q z. absurd (subst IsRefusal z tt);
    origins = λ b q z. absurd (subst IsRefusal z tt);
  }

  pub opening_bad : (x : Refusal) → block_of E k total number ≡ Err x → Opened block_layout E k total number m m (Err x)
  opening_bad x e = refused-with x (ap (λ n. opening n (length m)) (sym e))

-- The numbers name a block, and its memory was opened as a receiver's.
module _ (E k total number : ℕ) (v : Valid (block_from E k total number)) (good : block_of E k total number ≡ Ok (block_from E k total number))
    (flows m m₁ : List ℕ) where
  abbrev b : Block
  b = block_from E k total number

  abbrev size : ℕ
  size = memory_size (setting_for b)

  named : setting_of 10 E k ≡ Some (setting_for b)
  named = setting-named (setting_for b) (setting_valid b v)

  pub opening-refused : (x : Refusal) {r : Result ℕ Refusal} → r ≡ Err x → receiver.Opened receiver_layout 10 E k flows m m₁ r
      → Opened block_layout E k total number m m₁ (Err x)
  opening-refused x got answered =
      subst (λ n. Opened block_layout E k total number m n (Err x)) (sym (o.refused (number_of x) refl))
      (refused-with E k total number m x (go (ltb (length m) size) refl))
    where
      o : receiver.Opened receiver_layout 10 E k flows m m₁ (Err x)
      o = subst (receiver.Opened receiver_layout 10 E k flows m m₁) got answered

      is : said (Err x) ≡ cond (ltb (length m) size) (refusal 2) (value 0)
      is = o.answer ∙ ap (λ y. receiver.opening y (length m)) named

      go : (t : Bool) → ltb (length m) size ≡ t → said (Err x) ≡ opening (block_of E k total number) (length m)
      go true f =
          let short : opening (Ok b) (length m) ≡ refusal 2 = rw (lt-leb size (length m) (ltb-true (length m) size f)) in
          (rw f at is) ∙ sym (ap (λ n. opening n (length m)) good ∙ short)
      go false f = absurd (subst IsValue (sym (rw f at is)) tt)

  module _ (n : ℕ) {r : Result ℕ Refusal} (got : r ≡ Ok n) (answered : receiver.Opened receiver_layout 10 E k flows m m₁ r) where
    o : receiver.Opened receiver_layout 10 E k flows m m₁ (Ok n)
    o = subst (receiver.Opened receiver_layout 10 E k flows m m₁) got answered

    is : said (Ok n) ≡ cond (ltb (length m) size) (refusal 2) (value 0)
    is = o.answer ∙ ap (λ y. receiver.opening y (length m)) named

    long : (size ≤ length m) × (said (Ok n) ≡ value 0)
    long = go (ltb (length m) size) refl
      where
        go : (t : Bool) → ltb (length m) size ≡ t → (size ≤ length m) × (said (Ok n) ≡ value 0)
        go true f = absurd (subst IsRefusal (sym (rw f at is)) tt)
        go false f = (ltb-false (length m) size f, rw f at is)

    -- The memory has the length that it had.
    pub opened-room : size ≤ length m₁
    opened-room = omega (arith, long.0, (o.contained (setting_for b) named).same)

    abbrev left : List ℕ
    left = splice 0 (block_bytes 4 b) m₁

    header_fits : length (block_bytes 4 b) ≡ 16
    unfolding block_bytes setting_bytes
    header_fits = refl

    held : Holds left b (opened b)
    held = record {
      header = block_written 4 b m₁ (omega arith) v opened-room;
      reduced = empty_rref (laws E (omega (arith, v.size_least))) k;
      rows = window-header k E 0 0 (block_bytes 4 b) m₁ _ (setting_fits (setting_for b) m₁ (setting_valid b v) opened-room)
          (omega (arith, header_fits, header-long)) ((o.holds (setting_for b) named long.1).holds.rows 0);
    }

    heard : Hears left b unheard
    heard =
        hears_same k E 0 m₁ left unheard v.values.0
        (λ i l. get_or-past i 0 (block_bytes 4 b) m₁ (omega (arith, header_fits, header-long)) (omega arith))
        (o.origins (setting_for b) named long.1 0)

    same : (c : Block) → block_of E k total number ≡ Ok c → b ≡ c
    same c q = sym (good_names E k total number c q).0

    pub opening_done : (c : Block) (m' : List ℕ) → c ≡ b → m' ≡ splice 0 (block_bytes 4 c) m₁ → Opened block_layout E k total number m m' (Ok 0)
    opening_done c m' i e =
        subst (λ x. Opened block_layout E k total number m x (Ok 0)) (sym (e ∙ ap (λ x. splice 0 (block_bytes 4 x) m₁) i)) (record {
          answer = sym (ap (λ x. opening x (length m)) good ∙ rw (le-leb size (length m) long.0));
          refused = λ x q. absurd (subst IsValue q tt);
          contained = λ c q.
              subst (λ x. Contained (memory_size (setting_for x)) m left) (same c q)
              (record {
                same = length-splice 0 (block_bytes 4 b) m₁ (omega (arith, header_fits, opened-room)) ∙ (o.contained (setting_for b) named).same;
                past = past-splice size 0 (block_bytes 4 b) m₁ (omega (arith, header_fits)) (omega arith) ∙ (o.contained (setting_for b) named).past;
              });
          holds = λ c q z. subst (λ x. Holds left x (opened x)) (same c q) held;
          origins = λ c q z. subst (λ x. Hears left x unheard) (same c q) heard;
        })
