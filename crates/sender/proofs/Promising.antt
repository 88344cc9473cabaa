-- From the case that a call came to, to what it promises.
use Rattle.std.specs.Prelude.{◌≡◌, ◌≤◌, ◌+◌, ◌<◌, Result, Ok, Err}
use Rattle.words.specs.Words.{arith, ℕ, List, length, refl, ◌∙◌, sym, ap, [], Some, true, None, false, subst, drop, some-injective}
use Rattle.words.specs.Words.{none-ne-some, lt-ltb, le-ltb}
use Rattle.memory.specs.Part.{splice}
use Rattle.memory.proofs.Parts.{length-splice, past-splice}
use Rattle.wire.specs.declared.Refusal.{Refusal}
use Rattle.wire.specs.declared.Setting.{Setting}
use Rattle.wire.specs.Numbers.{number_of}
use Rattle.wire.specs.Answers.{value}
use Rattle.wire.specs.Settings.{setting_of}
use Rattle.wire.specs.Flows.{announced}
use Rattle.wire.specs.Packets.{longest_adu, symbol_count, source_packet}
use Rattle.sender.specs.declared.Header.{Header}
use Rattle.sender.specs.State.{Sender, fresh, taken, memory_size, header_in, header_of, Holds}
use Rattle.sender.specs.Calls.{Outcome, refused, done, opening, adding}
use Rattle.sender.specs.Promises.{RefusedWith, Follows, Kept, Promise}

pub kept : (n : Refusal) (m out : List ℕ) → RefusedWith (number_of n) m out (Err n) m out
kept n m out = record { answer = refl; memory = refl; output = refl }

-- ---- any call

module _ (f : Sender → Outcome) (m out : List ℕ) where
  -- no header
  pub promise_unopened : header_in m ≡ None → (r : Result ℕ Refusal) → RefusedWith 3 m out r m out → Promise f m out r m out
  promise_unopened e r k = record {
    unopened = λ _. k;
    kept = λ h q. absurd (none-ne-some h (sym e ∙ q));
    follows = λ s h. absurd (none-ne-some (header_of s) (sym e ∙ h.header));
  }

  module _ (h : Header) (e : header_in m ≡ Some h) where
    promise_opened : (r : Result ℕ Refusal) (m' out' : List ℕ) → Kept h m out r m' out'
        → ((s : Sender) → Holds m s → h ≡ header_of s → Follows (f s) m out r m' out')
        → Promise f m out r m' out'
    promise_opened r m' out' c g = record {
      unopened = λ q. absurd (none-ne-some h (sym q ∙ e));
      kept = λ k q. subst (λ x. Kept x m out r m' out') (some-injective h k (sym e ∙ q)) c;
      follows = λ s k. g s k (some-injective h (header_of s) (sym e ∙ k.header));
    }

    -- a refusal other than 3
    pub promise_refused : (n : Refusal) → (number_of n ≡ 3 → ⊥) → ((s : Sender) → Holds m s → h ≡ header_of s → f s ≡ refused (number_of n))
        → Promise f m out (Err n) m out
    promise_refused n z g =
        promise_opened (Err n) m out
        (record {
          memory = record { same = refl; past = refl };
          output = refl;
          leaves = (z, refl, refl);
          fits = λ x e. absurd (let i : ◌≡◌ {A = ℕ} 0 1 = cc in omega arith);
        })
        (λ s k q. rw (g s k q) (kept n m out))

    -- a packet of n bytes was written
    pub promise_done : (packet : List ℕ) (n : ℕ) (m' out' : List ℕ) → length packet ≡ n → n ≤ length out → out' ≡ splice 0 packet out
        → length m' ≡ length m → drop (memory_size h.setting) m' ≡ drop (memory_size h.setting) m
        → ((s : Sender) → Holds m s → h ≡ header_of s → (s' : Sender) × (f s ≡ done packet s') × Holds m' s' × (h.setting ≡ s'.setting))
        → Promise f m out (Ok n) m' out'
    promise_done packet n m' out' l k o same past g =
        promise_opened (Ok n) m' out'
        (record {
          memory = record { same = same; past = past };
          output = rw o (length-splice 0 packet out (omega arith));
          leaves = rw o (past-splice n 0 packet out (omega arith) (omega arith));
          fits = λ x e. let i : n ≡ x = cc in omega arith;
        })
        (λ s c q.
        let (s', d, holds, t) = g s c q in
        rw d (record { answer = ap value (sym l); output = o; holds = holds; length = same; past = rw t at past }))

-- ---- opening

module _ (scheme size width : ℕ) (flows m : List ℕ) where
  pub opening_values : setting_of scheme size width ≡ None → opening scheme size width flows (length m) ≡ refused 1
  unfolding opening
  opening_values e = rw e

  module _ (t : Setting) (e : setting_of scheme size width ≡ Some t) where
    pub opening_short : length m < memory_size t → opening scheme size width flows (length m) ≡ refused 2
    unfolding opening
    opening_short k = rw (e, lt-ltb (length m) (memory_size t) k)

    pub opening_done : memory_size t ≤ length m → opening scheme size width flows (length m) ≡ done [] (fresh t flows)
    unfolding opening
    opening_done k = rw (e, le-ltb (length m) (memory_size t) k)

-- ---- adding an ADU, by what the header says

module _ (flow : ℕ) (adu : List ℕ) (room : ℕ) (s : Sender) where
  pub adding-stray : announced s.flows flow ≡ false → adding s flow adu room ≡ refused 16
  unfolding adding
  adding-stray f = rw f

  module _ (f : announced s.flows flow ≡ true) where
    pub adding-long : longest_adu < length adu → adding s flow adu room ≡ refused 4
    unfolding adding
    adding-long l = rw (f, lt-ltb longest_adu (length adu) l)

    module _ (h : Header) (q : h ≡ header_of s) (l : length adu ≤ longest_adu) where
      t : h.setting ≡ s.setting
      t = ap (λ (x : Header). x.setting) q

      abbrev count : ℕ
      count = symbol_count s.setting.size (length adu)

      pub adding_many : h.setting.width < symbol_count h.setting.size (length adu) → adding s flow adu room ≡ refused 4
      unfolding adding
      adding_many k = rw (f, le-ltb longest_adu (length adu) l, lt-ltb s.setting.width count (rw t at k))

      module _ (n : symbol_count h.setting.size (length adu) ≤ h.setting.width) where
        pub adding_short : room < length adu + 4 → adding s flow adu room ≡ refused 2
        unfolding adding
        adding_short k = rw (f, le-ltb longest_adu (length adu) l, le-ltb s.setting.width count (rw t at n), lt-ltb room (length adu + 4) k)

        pub adding_done : length adu + 4 ≤ room → adding s flow adu room ≡ done (source_packet adu h.esi.0) (taken s flow adu)
        unfolding adding
        adding_done k = rw (f, le-ltb longest_adu (length adu) l, le-ltb s.setting.width count (rw t at n), le-ltb room (length adu + 4) k, q)
