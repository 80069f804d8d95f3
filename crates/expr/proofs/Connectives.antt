-- AND and OR, one operand after another.
use Rattle.std.proofs.Common.{◌≡◌, refl}
use Rattle.definitions.specs.Truth.{Truth, False, Unknown, True, and, or}

pub and_assoc : (a b c : Truth) → and (and a b) c ≡ and a (and b c)
and_assoc False b c = refl
and_assoc Unknown False c = refl
and_assoc Unknown Unknown False = refl
and_assoc Unknown Unknown Unknown = refl
and_assoc Unknown Unknown True = refl
and_assoc Unknown True c = refl
and_assoc True b c = refl

pub and_true : (a : Truth) → and a True ≡ a
and_true False = refl
and_true Unknown = refl
and_true True = refl

pub or_assoc : (a b c : Truth) → or (or a b) c ≡ or a (or b c)
or_assoc True b c = refl
or_assoc Unknown True c = refl
or_assoc Unknown Unknown True = refl
or_assoc Unknown Unknown Unknown = refl
or_assoc Unknown Unknown False = refl
or_assoc Unknown False c = refl
or_assoc False b c = refl

pub or_false : (a : Truth) → or a False ≡ a
or_false False = refl
or_false Unknown = refl
or_false True = refl
