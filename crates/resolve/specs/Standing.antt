-- Where a fault stands; without memory nothing in the text is at fault.
use Rattle.std.specs.Prelude.{Option, Some, None}
use Rattle.trees.specs.declared.position.Span.{Span}
use Rattle.resolve.specs.declared.fault.Fault.{Fault}
use Rattle.resolve.specs.declared.fault.Fault.TheVariants.{Class, Number, Name, Predicate, Arguments, Modulus, Rest, Again, Round, Late, Deep, Large, Memory}

abbrev pub standing : Fault → Option Span
standing (Class wanted class span) = Some span
standing (Number span) = Some span
standing (Name span) = Some span
standing (Predicate span) = Some span
standing (Arguments wanted given span) = Some span
standing (Modulus span) = Some span
standing (Rest modulus span) = Some span
standing (Again span) = Some span
standing (Round span) = Some span
standing (Late span) = Some span
standing (Deep span) = Some span
standing (Large span) = Some span
standing Memory = None
