-- Choices by tests. They stay shut, so that a search sees which test a goal waits on.
use Rattle.std.specs.Prelude.{Bool, true, false}

infixr 35 ◌and◌
infixr 30 ◌or◌
-- both tests hold
unfoldable pub ◌and◌ : Bool → Bool → Bool
true and b = b
false and b = false

-- one of the tests holds
unfoldable pub ◌or◌ : Bool → Bool → Bool
true or b = true
false or b = b

-- a where the test holds, else b
unfoldable pub choose : {A : Type 0} → Bool → A → A → A
choose true a b = a
choose false a b = b
