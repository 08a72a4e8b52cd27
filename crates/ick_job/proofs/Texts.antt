-- A text that is given, or isn't.
use Rattle.std.proofs.Common.{◌≡◌, Option, Some, None, ap, false, true}
use Rattle.std.specs.Prelude.{is_some, option_map}
use Rattle.clap.specs.Words.{Text}

pub given_some : {T : Type 0} (f : T → Text) (text : Option T) (t : T) → text ≡ Some t →
    option_map f text ≡ Some (f t)
given_some f text t is = ap (option_map f) is

pub given_none : {T : Type 0} (f : T → Text) (text : Option T) → text ≡ None → option_map f text ≡ None
given_none f text is = ap (option_map f) is

pub no_file : (file : Option Text) (name : Text) → file ≡ Some name → is_some file ≡ false → ⊥
no_file file name is none = let some : is_some file ≡ true = ap is_some is in cc

pub some_file : (file : Option Text) → file ≡ None → is_some file ≡ true → ⊥
some_file file is some = let none : is_some file ≡ false = ap is_some is in cc
