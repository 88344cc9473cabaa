-- The words of the logic that most files use: of its lists, numbers and tactics, under one name, so that a file needs one line for them.
pub use Rattle.std.specs.Prelude.{ℕ, ◌≤◌, ◌+◌, ◌<◌, ◌-◌, ◌%◌, suc, zero, ◌*◌, ◌^◌, ◌/◌, min, max, ltb, leb, eqb, length, get_or, drop, take, set, replicate, true, false, Bool, cond, ◌&&◌, ◌||◌, not, List, [], ◌∷◌, ◌++◌, map, ◌≢◌, ◌↔◌, ◌⊎◌, ◌≡◌, refl}
pub use Rattle.std.proofs.Common.{rules, le-leb, ne_eqb, lt-ltb, eq-eqb, leb-true, eqb-true, le-ltb, ltb-true, ltb-false, lit<, length-append, length-drop, length-set, length-take, take-append-drop, get_or-drop, take_all, ext_get_or, drop-cons, drop-drop, length-take-le, take_at, get_or-take, true≢false, append_assoc, append-nil, inr, inl, ⊎_elim, ◌∙◌, sym, ap, subst, ap₂, mod-lt, add-zero, mod-eq_of_lt, not-suc-le-zero, zero-add, le_of_suc-le-suc, zero-mul, suc-mul, add-suc, mul-le-mul, add_assoc, suc-add, mul-le-mul_right, one-mul, add-one, arith}
pub use Rattle.std.proofs.lemmas.Bool.{lt-leb, not-false, not-true, eqb-false}
pub use Rattle.std.specs.Borrow.{Bor, MutBor}
pub use Rattle.std.specs.Int.Bits.{bit_xor, xor_zero_r}
pub use Rattle.std.proofs.lemmas.Nat.{xor_lt, xor_comm}
pub use Rattle.std.proofs.Math.ListN.{get_or-append}
pub use Rattle.std.proofs.lemmas.List.{length-replicate}
pub use Rattle.std.proofs.Math.Seq.{take-append_seam, drop-length}
pub use Rattle.std.specs.Prelude.{Option, Some, None}
pub use Rattle.words.specs.Options.{some-injective, none-ne-some, some-ne-none}
pub use Rattle.std.proofs.Math.Decide.{ℕ_discrete, dec_lt}
pub use Rattle.std.proofs.Math.Nat.{mod-add-mod, add-mod_right}
