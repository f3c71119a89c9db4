-- Which faults of a rule file are none of the file.
use Rattle.std.specs.Prelude.{Bool, true, false, None}
use Rattle.rule_file.specs.declared.fault.Fault.TheVariants as form
use Rattle.rule_source.specs.declared.fault.Fault.{Fault}
use Rattle.rule_source.specs.declared.fault.Fault.TheVariants as fault
use Rattle.rules.specs.declared.known.Unsound.TheVariants as unsound

-- there is not enough memory
abbrev pub is_memory : Fault → Bool
is_memory fault.Memory = true
is_memory (fault.Form form.OutOfMemory) = true
is_memory (fault.Unsound unsound.OutOfMemory) = true
is_memory (fault.Formula m None) = true
is_memory _ = false
