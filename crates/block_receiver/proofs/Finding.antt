-- From what the code reads in the memory to what is found in it, and from there to what the symbol calls promise.
-- Found: finds_unopened, finds_past, finds_unknown, finds_at. Promised: at_bounded, shown-found, shown_missing, part-found, part_missing, place_found,
-- place_missing.
use denote.Ref.{Bor}
use Rattle.std.specs.Prelude.{◌≡◌, ◌≤◌, ◌+◌, ◌<◌, ◌%◌, Result, Ok, Err}
use Rattle.words.specs.Words.{arith, ℕ, length, List, refl, ◌∙◌, sym, ap, [], Some, None, true, false, Bool, subst, Option}
use Rattle.words.specs.Words.{inl, inr, lt-ltb, le-ltb, zero-add, mod-eq_of_lt, some-injective, none-ne-some}
use mathlib.Core.Path.{subst₂}
use Rattle.memory.specs.Part.{part, LiesAt}
use Rattle.memory.specs.Number.{Bytes}
use Rattle.wire.specs.declared.Refusal.{Refusal}
use Rattle.wire.specs.Numbers.{number_of}
use Rattle.wire.specs.Answers.{value, refusal}
use Rattle.decoder.specs.Model.{known}
use Rattle.table.specs.declared.Shape.{Shape}
use Rattle.table.specs.Window.{row, line, Fits}
use Rattle.table.proofs.Offsets.{flags_fit, row_end}
use Rattle.placing.specs.Place.{KnownAt}
use Rattle.placing.proofs.Showing.{symbol_bytes}
use Rattle.history.specs.History.{IsValue}
use Rattle.history.specs.Model.{hides}
use Rattle.history.proofs.Cases.{numeral}
use Rattle.holding.proofs.Headers.{setting_fits}
use Rattle.holding.proofs.Finding.{IsNowhere}
use Rattle.origins.specs.Origins.{heard_in}
use Rattle.blocks.specs.declared.Block.{Block}
use Rattle.blocks.specs.Block.{setting_for}
use Rattle.blocks.specs.Stored.{block_in}
use Rattle.blocks.proofs.Values.{setting_valid}
use Rattle.blocks.proofs.Stored.{headed}
use Rattle.block_receiver.specs.Model.{System, shown, finding}
use Rattle.block_receiver.specs.Promises.{Finds, SymbolShown, Shows, PartShown, Places, PlaceAnswered}
use Rattle.block_receiver.specs.Layout.{Holds, symbol_start, block_layout}
use Rattle.block_receiver.specs.Inner.{shape_of, SpottedFor, InBounds, Spotted}
use Rattle.wire.specs.declared.Refusal.TheVariants as refusals
use Rattle.holding.specs.declared.Spot.{Spot}

-- The memory has room for the block's rows.
pub block_fits : (m : List ℕ) (b : Block) → block_in 4 m ≡ Some b → Fits b.k b.size m
block_fits m b e = let h = headed 4 m b e in setting_fits (setting_for b) m (setting_valid b h.valid) h.room

-- ---- What is found

pub past_finding : (b : Block) (S : System b) (e : ℕ) → b.k ≤ e → finding b S e ≡ hides 12
unfolding finding
past_finding b S e l = rw (le-ltb e b.k l)

pub inside_finding : (b : Block) (S : System b) (e : ℕ) → e < b.k → finding b S e ≡ shown b e (known S e)
unfolding finding
inside_finding b S e l = rw (lt-ltb e b.k l)

module _ (m : List ℕ) (e : ℕ) where
  pub finds_unopened : block_in 4 m ≡ None → Spotted m e (Err refusals.Unopened)
  finds_unopened q = record {
    unopened = λ _. refl;
    lies = λ b k. absurd (none-ne-some b (sym q ∙ k));
    told = λ b S h. absurd (none-ne-some b (sym q ∙ h.header));
  }

  module _ (b : Block) (q : block_in 4 m ≡ Some b) where
    same : (c : Block) → block_in 4 m ≡ Some c → b ≡ c
    same c k = some-injective b c (sym q ∙ k)

    hidden : ((S : System b) → Holds m b S → finding b S e ≡ hides 12) → Spotted m e (Err refusals.Unknown)
    hidden f = record {
      unopened = λ k. absurd (none-ne-some b (sym k ∙ q));
      lies = λ c k x. absurd (omega (arith, x));
      told = λ c S h. subst (λ (d : Block). (T : System d) → Holds m d T → finding d T e ≡ hides 12) (same c h.header) f S h;
    }

    pub finds_past : b.k ≤ e → Spotted m e (Err refusals.Unknown)
    finds_past l = hidden (λ S h. past_finding b S e l)

    module _ (l : e < b.k) where
      place : (0 + e) % b.k ≡ e
      place = ap (λ i. i % b.k) (zero-add e) ∙ mod-eq_of_lt l

      pub finds_unknown : KnownAt b.k b.size e false m → Spotted m e (Err refusals.Unknown)
      finds_unknown u = hidden (λ S h. inside_finding b S e l ∙ ap (shown b e) (u 0 e S l place h.rows))

      pub finds_at : KnownAt b.k b.size e true m → Bytes m → Spotted m e (Ok (record { at = symbol_start b e; size = b.size; heard = heard_in b.k b.size m e }))
      finds_at u z = record {
        unopened = λ k. absurd (none-ne-some b (sym k ∙ q));
        lies = λ c k. subst (λ d. InBounds m e d (Ok (record { at = symbol_start b e; size = b.size; heard = heard_in b.k b.size m e }))) (same c k) (
          refl,
          omega (arith, (block_fits m b q).room, row_end b.k b.size e l, flags_fit b.k b.size),
          λ H h. ap (heard_in b.k b.size m) (sym place) ∙ h.window e l ∙ ap H (zero-add e),
        );
        told = λ c S h.
            subst (λ (d : Block). (T : System d) → Holds m d T → SpottedFor m e d T (Ok (record { at = symbol_start b e; size = b.size; heard = heard_in b.k b.size m e })))
            (same c h.header) here S h;
      }
        where
          here : (S : System b) → Holds m b S → SpottedFor m e b S (Ok (record { at = symbol_start b e; size = b.size; heard = heard_in b.k b.size m e }))
          here S h = (
            (line b.k b.size (row b.k b.size e m)).sym,
            inside_finding b S e l ∙ ap (shown b e) (u 0 e S l place h.rows),
            symbol_bytes b.k b.size e m (block_fits m b q) l z,
            refl,
            refl,
          )

-- The same with the shape and the test as the code has them.
pub known_as : (b : Block) (e : ℕ) (m : List ℕ) (s : Shape) (t u : Bool) → s ≡ shape_of b → t ≡ u → KnownAt s.width s.size e t m → KnownAt b.k b.size e u m
known_as b e m s t u p q k = subst₂ (λ (s : Shape) (u : Bool). KnownAt s.width s.size e u m) p q k

-- ---- What is promised of it

abbrev said_heard : Result Bool Refusal → Bool
said_heard (Ok heard) = heard
said_heard (Err x) = false

abbrev IsHidden : Result Bool Refusal → Type 0
IsHidden (Ok heard) = ⊥
IsHidden (Err x) = Unit {0}

-- A memory was opened to recover a block, or not.
by_block : (m : List ℕ) (A : Type 0) → ((b : Block) → block_in 4 m ≡ Some b → A) → (block_in 4 m ≡ None → A) → A
by_block m A x y = go (block_in 4 m) refl
  where
    go : (o : Option Block) → block_in 4 m ≡ o → A
    go None k = y k
    go (Some b) k = x b k

pub at_bounded : (m : List ℕ) (e : ℕ) (f : Result Spot Refusal) (spot : Spot) → f ≡ Ok spot → Spotted m e f → spot.at + spot.size ≤ length m
at_bounded m e f spot q g =
    let h = subst (Spotted m e) q g in
    by_block m (spot.at + spot.size ≤ length m) (λ b k. (h.lies b k).1) (λ k. absurd (subst IsNowhere (sym (h.unopened k)) tt))

module _ (m : List ℕ) (e : ℕ) where
  missing : (x : Refusal) → Spotted m e (Err x) → (refusal (number_of x) ≡ refusal 3 → block_in 4 m ≡ None) × (block_in 4 m ≡ None → refusal (number_of x) ≡ refusal 3)
  missing x g = (
    (λ z. by_block m (block_in 4 m ≡ None) (λ b k. absurd (g.lies b k (ap numeral z))) (λ k. k)),
    (λ z. ap (λ (y : Result Spot Refusal). refusal (reason y)) (g.unopened z)),
  )
    where
      reason : Result Spot Refusal → ℕ
      reason (Ok spot) = 0
      reason (Err y) = number_of y

  pub shown-found : (f : Result Spot Refusal) (spot : Spot) → f ≡ Ok spot → Spotted m e f → SymbolShown block_layout m e (Ok spot.heard)
  shown-found f spot q g' =
      let g = subst (Spotted m e) q g' in
      record {
        unopened = ((λ z. absurd (subst IsValue z tt)), (λ z. absurd (subst IsNowhere (sym (g.unopened z)) tt)));
        finds = λ b S h. let (v, x, c, y, z) = g.told b S h in subst (λ o. Finds block_layout o (Ok 0)) (sym x) refl;
        origin = λ b S H h k heard' z. ap said_heard (sym z) ∙ (g.lies b h.header).2 H k;
      }

  pub shown_missing : (f : Result Spot Refusal) (x : Refusal) → f ≡ Err x → Spotted m e f → SymbolShown block_layout m e (Err x)
  shown_missing f x q g' =
      let g = subst (Spotted m e) q g' in
      record {
        unopened = missing x g;
        finds = λ b S h. subst (λ o. Finds block_layout o (Err x)) (sym (g.told b S h)) refl;
        origin = λ b S H h k heard z. absurd (subst IsHidden z tt);
      }

  pub place_found : (f : Result Spot Refusal) (spot : Spot) → f ≡ Ok spot → Spotted m e f → PlaceAnswered block_layout m e (Ok spot.at)
  place_found f spot q g' =
      let g = subst (Spotted m e) q g' in
      record {
        unopened = ((λ z. absurd (subst IsValue z tt)), (λ z. absurd (subst IsNowhere (sym (g.unopened z)) tt)));
        within = λ b at k z.
            let i : spot.at ≡ at = ap numeral z in
            let (s, l, h) = g.lies b k in
            omega (arith, i, s, l);
        places = λ b S h.
            let (v, x, c, y, z) = g.told b S h in
            subst (λ o. Places block_layout b o m (Ok spot.at)) (sym x)
            (ap value y, ap (λ i. part i b.size m) (sym y) ∙ ap (λ i. part spot.at i m) (sym z) ∙ sym c);
      }

  pub place_missing : (f : Result Spot Refusal) (x : Refusal) → f ≡ Err x → Spotted m e f → PlaceAnswered block_layout m e (Err x)
  place_missing f x q g' =
      let g = subst (Spotted m e) q g' in
      record {
        unopened = missing x g;
        within = λ b at k z. absurd (subst IsValue (sym z) tt);
        places = λ b S h. subst (λ o. Places block_layout b o m (Err x)) (sym (g.told b S h)) refl;
      }

module _ (mem r : Bor (List ℕ)) (e : ℕ) where
  pub part-found : (f : Result Spot Refusal) (spot : Spot) → f ≡ Ok spot → Spotted mem.now e f → LiesAt r mem spot.at spot.size → PartShown block_layout mem r e
  part-found f spot q g' l =
      let g = subst (Spotted mem.now e) q g' in
      record {
        unopened = λ z. absurd (subst IsNowhere (sym (g.unopened z)) tt);
        within = λ b k. let (s, i, h) = g.lies b k in inr (spot.at, subst (LiesAt r mem spot.at) s l, omega (arith, i, s));
        shows = λ b S h.
            let (v, x, c, y, z) = g.told b S h in
            subst (λ o. Shows block_layout b o mem r) (sym x) (l.bytes ∙ sym c, subst (λ j. LiesAt r mem j b.size) y (subst (LiesAt r mem spot.at) z l));
      }

  pub part_missing : (f : Result Spot Refusal) (x : Refusal) → f ≡ Err x → Spotted mem.now e f → r.now ≡ [] → PartShown block_layout mem r e
  part_missing f x q g' l =
      let g = subst (Spotted mem.now e) q g' in
      record {
        unopened = λ _. l;
        within = λ b k. inl l;
        shows = λ b S h. subst (λ o. Shows block_layout b o mem r) (sym (g.told b S h)) l;
      }
