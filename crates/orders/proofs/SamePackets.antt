-- What one receiver has accepted at a position, another that accepted the same there has in its history too.
-- Index
--   said_at: what a packet says is told by its bytes and its first position
--   accepted_at: a packet of the history, as a call brought it; among: so the one history has what the other has
use Rattle.std.specs.Prelude.{◌≡◌}
use Rattle.words.specs.Words.{ℕ, List, refl, ◌∙◌, sym, ap₂, subst}
use mathlib.Core.List.{Memᴰ}
use Rattle.wire.specs.declared.Setting.{Setting}
use Rattle.wire.specs.Packets.{source_adu}
use Rattle.history.specs.History.{Located, first, Call, source-call, repair-call, reading, fresh, located}
use Rattle.history.specs.Checking.{says_at}
use Rattle.history.proofs.Readings.{source-read, repair-read, reading_passed}
use Rattle.claims.specs.Run.{Step, history}
use Rattle.claims.proofs.Accepted.{AcceptedAs, accepted_as}
use Rattle.orders.specs.Orders.{AcceptedAt}
use Rattle.orders.proofs.Windows.{Among}

-- ---- What a packet says is told by its bytes and its first position

said_at : (s : Setting) (flows : List ℕ) (base room : ℕ) (c : Call) (q : Located) → reading s flows base room c ≡ located q → q ≡ says_at s (first q) c
unfolding source_adu
said_at s flows base room (source-call flow p) q h =
    let r = source-read s flows base flow p q (reading_passed s flows base room (source-call flow p) q h) in
    subst (λ x. x ≡ says_at s (first x) (source-call flow p)) r.says refl
said_at s flows base room (repair-call p) q h =
    let r = repair-read s base p q (reading_passed s flows base room (repair-call p) q h) in
    subst (λ x. x ≡ says_at s (first x) (repair-call p)) r.says refl

module _ (s : Setting) (flows : List ℕ) where
  -- A packet of the history, as a call brought it.
  accepted_at : (ts : List Step) (q : Located) (k : AcceptedAs s flows fresh ts q) → AcceptedAt s flows ts k.step.call (first q)
  accepted_at ts q k = record {
    before = k.before;
    step = k.step;
    after = k.after;
    split = k.split;
    brings = refl;
    accepted = k.accepted;
    packet = q;
    read_as = k.read_as;
    at = refl;
  }

  -- What one has accepted at a position, the other has accepted as the same.
  pub among : (ts us : List Step) → ((c : Call) (p : ℕ) → AcceptedAt s flows ts c p → AcceptedAt s flows us c p)
      → Among (history s flows ts) (history s flows us)
  among ts us f q m =
      let k = (accepted_as s flows ts q).0 m in
      let c = k.step.call in
      let u = f c (first q) (accepted_at ts q k) in
      let here : q ≡ says_at s (first q) c = said_at s flows _ _ c q k.read_as in
      let says : u.packet ≡ says_at s (first u.packet) u.step.call = said_at s flows _ _ u.step.call u.packet u.read_as in
      let same : u.packet ≡ q = says ∙ ap₂ (says_at s) u.at u.brings ∙ sym here in
      subst (λ x. Memᴰ x (history s flows us)) same
      ((accepted_as s flows us u.packet).1
      (record { before = u.before; step = u.step; after = u.after; split = u.split; accepted = u.accepted; read_as = u.read_as }))
