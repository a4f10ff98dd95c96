-- What the tests of the header, of a record and of an octet say. Assumes nothing.
use Rattle.std.specs.Prelude.{Option, Some, None}
use mathlib.Core.Path.{◌≡◌, refl, sym, ap, ◌∙◌}
use mathlib.Core.Bool.{true}
use mathlib.Core.Logic.{◌⊎◌, inl, inr, ⊎_elim}
use Prim.Native.Nat.{ℕ, ◌+◌, ◌-◌, ◌≤◌, ◌<◌}
use native.Mathlib.Omega.{arith}
use lib.Dec.{eqb, ltb, leb}
use lib.ListN.{length}
use borrow.Author.Tests.{eqb-true, leb-true, ltb-true, eq-eqb, le-leb, lt-ltb, le-ltb}
use Rattle.model.specs.Limits.{most_inputs, most_outputs}
use Rattle.model.specs.Model.{event}
use Rattle.model.proofs.Demands.{event_bytes}
use Rattle.table.specs.Bytes.{symbol_of}
use Rattle.table.specs.declared.answer.Symbol.{Symbol}
use Rattle.table.specs.declared.answer.Symbol.TheVariants.{Input, Output}
use Rattle.std.proofs.lemmas.Bool.{and_parts, or_cases}
use Rattle.table.proofs.Laws.{symbol_means, given_means}
use Rattle.capture.specs.Limits.{header_size, record_size, magic, version_major, version_minor, link_type}
use Rattle.capture.specs.Capture.{two_at, four_at, big, headed, right, of_layout}
use Rattle.capture.specs.Laws.{Reversed, HeaderPasses, OrderTold, RecordPasses, LayoutIs, LayoutValid}

pub reversed : Reversed
reversed a b c d = (omega arith, omega arith)

pub order_told : OrderTold
unfolding big
order_told s = (eqb-true (four_at true s 0) magic, eq-eqb (four_at true s 0) magic)

pub header_passes : HeaderPasses
unfolding headed
header_passes s = (
  λ e.
      let (a, e₁) = and_parts (leb header_size (length s)) _ e in
      let (b, e₂) = and_parts (eqb (four_at (big s) s 0) magic) _ e₁ in
      let (c, e₃) = and_parts (eqb (two_at (big s) s 4) version_major) _ e₂ in
      let (d, f) = and_parts (eqb (two_at (big s) s 6) version_minor) _ e₃ in
      record {
        whole = leb-true _ _ a;
        magic_there = eqb-true _ _ b;
        major = eqb-true _ _ c;
        minor = eqb-true _ _ d;
        link = eqb-true _ _ f;
      },
  λ g.
      simp (
        le-leb header_size (length s) g.whole,
        eq-eqb (four_at (big s) s 0) magic g.magic_there,
        eq-eqb (two_at (big s) s 4) version_major g.major,
        eq-eqb (two_at (big s) s 6) version_minor g.minor,
        eq-eqb (four_at (big s) s 20) link_type g.link,
      ),
)

pub record_passes : RecordPasses
unfolding right
record_passes order r = (
  λ e.
      let (a, f) = and_parts (leb record_size (length r)) _ e in
      let (b, c) = and_parts (eqb (four_at order r 8) 1) _ f in
      record { whole = leb-true _ _ a; captured = eqb-true _ _ b; original = eqb-true _ _ c },
  λ g.
      simp (
        le-leb record_size (length r) g.whole,
        eq-eqb (four_at order r 8) 1 g.captured,
        eq-eqb (four_at order r 12) 1 g.original,
      ),
)

pub layout_is : LayoutIs
unfolding of_layout
layout_is x = (
  λ e.
      ⊎_elim
      (λ f. inl (ltb-true x 16 f))
      (λ f. let (a, b) = and_parts (leb 128 x) _ f in inr (leb-true 128 x a, ltb-true x 144 b))
      (or_cases (ltb x 16) _ e),
  ⊎_elim
      (λ l. simp (lt-ltb x 16 l))
      (λ (l, m). simp (le-ltb x 16 (omega arith), le-leb 128 x l, lt-ltb x 144 m)),
)

-- an octet of the layout is a symbol, and a symbol's byte is of the layout
valid : (x : ℕ) → (x < 16) ⊎ ((128 ≤ x) × (x < 144)) → symbol_of x most_inputs most_outputs ≡ None → ⊥
valid x (inl l) e =
    ((symbol_means x most_inputs most_outputs None (omega arith) (omega arith)).0 e).0 x ((event_bytes x).0 (omega arith)) l
valid x (inr (l, m)) e =
    let f : 128 + (x - 128) ≡ x = omega arith in
    ((symbol_means x most_inputs most_outputs None (omega arith) (omega arith)).0 e).1 (x - 128)
    (ap event (sym f) ∙ (event_bytes (x - 128)).1) (omega arith)

of_symbol : (x : ℕ) (y : Option Symbol) → symbol_of x most_inputs most_outputs ≡ y → (y ≡ None → ⊥) → (x < 16) ⊎ ((128 ≤ x) × (x < 144))
of_symbol x (Some (Input a)) e n = let (f, l, g) = (given_means x most_inputs most_outputs a).0 e in inl (omega arith)
of_symbol x (Some (Output a)) e n = let (f, l, g) = (given_means x most_inputs most_outputs a).1 e in inr (omega arith, omega arith)
of_symbol x None e n = absurd (n refl)

pub layout_valid : LayoutValid
layout_valid x = (
  λ e. valid x ((layout_is x).0 e),
  λ n. (layout_is x).1 (of_symbol x (symbol_of x most_inputs most_outputs) refl n),
)
