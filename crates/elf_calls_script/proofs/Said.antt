-- Values beside whether their numbers are in range, put together.
use Rattle.std.proofs.Common.{◌≡◌, ◌&&◌, Bool, true, false, Some, option_map, refl}
use Rattle.std.specs.Bool.{then_some}
use Rattle.std.specs.Option.{option_zip}

pub said_made : {A B : Type 0} (made : A → B) (b : Bool) (x : A) → option_map made (then_some b x) ≡ then_some b (made x)
said_made made true x = refl
said_made made false x = refl

pub said_both : {A B : Type 0} (b c : Bool) (x : A) (y : B) → option_zip (then_some b x) (then_some c y) ≡ then_some (b && c) (x, y)
said_both true true x y = refl
said_both true false x y = refl
said_both false true x y = refl
said_both false false x y = refl

pub said_with : {A B : Type 0} (b : Bool) (x : A) (y : B) → option_zip (then_some b x) (Some y) ≡ then_some b (x, y)
said_with true x y = refl
said_with false x y = refl

pub ruleset said = (said_made, said_both, said_with)
