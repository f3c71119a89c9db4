-- Patterns that no module fits, and patterns that fit wherever another does.
use Rattle.std.specs.Prelude.{◌≡◌, ℕ, true, false, List}
use Rattle.std.proofs.Math.Option.{Option, some, none}
use Rattle.rows.specs.declared.rule.Asked.TheVariants.{There}
use Rattle.rows.specs.declared.rule.Layout.{Layout}
use Rattle.rows.specs.declared.rule.Layout.TheVariants.{Line, Ring}
use Rattle.rows.specs.declared.rule.Literal.{Literal}
use Rattle.rows.specs.declared.rule.Side.{Side}
use Rattle.rows.specs.Views.{seen}
use Rattle.rows.specs.Patterns.{fits}

-- what may stand beside a module: in a line anything, in a ring a module
abbrev pub CanStand : Layout → Option ℕ → Type 0
CanStand Line o = Unit {0}
CanStand Ring none = ⊥
CanStand Ring (some a) = Unit {0}

-- on that side of a module there is a module, whatever the row
abbrev pub AlwaysStands : Layout → Side → Type 0
AlwaysStands s d = (l : Option ℕ) (a : ℕ) (r : Option ℕ) → CanStand s l → CanStand s r → seen l a r d There ≡ true

-- it is not asked that none stands where one always does
abbrev pub CanAsk : Layout → Literal → Type 0
CanAsk s p = p.asked ≡ There → p.set ≡ false → AlwaysStands s p.side → ⊥

-- no module, whatever its neighbours, is as the literals say
abbrev pub FitsNone : Layout → List Literal → Type 0
FitsNone s ps = (l : Option ℕ) (a : ℕ) (r : Option ℕ) → CanStand s l → CanStand s r → fits ps (seen l a r) ≡ false

-- whatever module is as the second say is as the first say
abbrev pub FitsWherever : Layout → List Literal → List Literal → Type 0
FitsWherever s wide narrow = (l : Option ℕ) (a : ℕ) (r : Option ℕ) → CanStand s l → CanStand s r → fits narrow (seen l a r) ≡ true → fits wide (seen l a r) ≡ true
