-- The program's error for a saved text that can't be restored.
use Rattle.twox_plain.specs.declared.xxhash32.saved.FormError.{FormError as FormError32}
use Rattle.twox_plain.specs.declared.xxhash32.saved.FormError.TheVariants as Form32
use Rattle.twox_plain.specs.declared.xxhash64.saved.FormError.{FormError as FormError64}
use Rattle.twox_plain.specs.declared.xxhash64.saved.FormError.TheVariants as Form64
use Rattle.xxh_io.specs.declared.fault.Fault.{Fault}
use Rattle.xxh_io.specs.declared.fault.Fault.TheVariants.{BadState, OutOfMemory}

abbrev pub form_fault_32 : FormError32 → Fault
form_fault_32 Form32.Text = BadState
form_fault_32 Form32.Memory = OutOfMemory

abbrev pub form_fault_64 : FormError64 → Fault
form_fault_64 Form64.Text = BadState
form_fault_64 Form64.Memory = OutOfMemory
