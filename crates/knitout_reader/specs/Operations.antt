-- The words of the operations, as the code groups them.
use Rattle.std.specs.Prelude.{◌≡◌, ℕ, ℤ, List, ◌++◌, codes, Option, None}
use Rattle.knit_base.specs.declared.instr.Instr.{Instr}
use Rattle.knit_base.specs.declared.instr.Instr.TheVariants as instr
use Rattle.knit_base.specs.declared.needle.Bed.{Bed}
use Rattle.knit_base.specs.declared.needle.Dir.{Dir}
use Rattle.knit_base.specs.declared.needle.Needle.{Needle}
use Rattle.knit_base.specs.declared.yarns.CarrierNo.{CarrierNo}
use Rattle.knitout_reader.specs.declared.words.CarrierOperation.{CarrierOperation}
use Rattle.knitout_reader.specs.declared.words.CarrierOperation.TheVariants as carrier_operation
use Rattle.knitout_reader.specs.declared.words.LoopOperation.{LoopOperation}
use Rattle.knitout_reader.specs.declared.words.LoopOperation.TheVariants as loop_operation
use Rattle.knitout_reader.specs.declared.words.NeedleOperation.{NeedleOperation}
use Rattle.knitout_reader.specs.declared.words.NeedleOperation.TheVariants as needle_operation
use Rattle.knitout_reader.specs.declared.words.FreeOperation.{FreeOperation}
use Rattle.knitout_reader.specs.declared.words.FreeOperation.TheVariants as free_operation
use Rattle.knitout_reader.specs.declared.words.Operation.{Operation}
use Rattle.knitout_reader.specs.declared.words.Operation.TheVariants as operation
use Rattle.knit_base.specs.declared.rule.Reason.{Reason}
use Rattle.knitout_reader.specs.Reading.{slider_form}
use Rattle.knitout_reader.specs.Shapes.{Shape, CarryInShape, CarryOutShape, HookInShape, HookOutShape, ReleaseHookShape, KnitShape, TuckShape, MissShape, DropShape, AmissShape}

-- the word of an operation on carriers alone
abbrev pub carrier_word : CarrierOperation → List ℕ
carrier_word carrier_operation.In = codes "in"
carrier_word carrier_operation.Out = codes "out"
carrier_word carrier_operation.HookIn = codes "inhook"
carrier_word carrier_operation.HookOut = codes "outhook"
carrier_word carrier_operation.ReleaseHook = codes "releasehook"

-- the shape of an operation on carriers alone
abbrev pub carrier_shape : CarrierOperation → List (List ℕ) → Shape
carrier_shape carrier_operation.In carriers = CarryInShape carriers
carrier_shape carrier_operation.Out carriers = CarryOutShape carriers
carrier_shape carrier_operation.HookIn carriers = HookInShape carriers
carrier_shape carrier_operation.HookOut carriers = HookOutShape carriers
carrier_shape carrier_operation.ReleaseHook carriers = ReleaseHookShape carriers

-- its instruction
abbrev pub carrier_instr : CarrierOperation → List CarrierNo → Instr
carrier_instr carrier_operation.In cs = instr.CarryIn cs
carrier_instr carrier_operation.Out cs = instr.CarryOut cs
carrier_instr carrier_operation.HookIn cs = instr.HookIn cs
carrier_instr carrier_operation.HookOut cs = instr.HookOut cs
carrier_instr carrier_operation.ReleaseHook cs = instr.ReleaseHook cs

-- the word of an operation with a direction, a needle and carriers
abbrev pub loop_word : LoopOperation → List ℕ
loop_word loop_operation.Knit = codes "knit"
loop_word loop_operation.Tuck = codes "tuck"
loop_word loop_operation.Miss = codes "miss"

-- its shape
abbrev pub loop_shape : LoopOperation → Dir → Bed → ℤ → List (List ℕ) → Shape
loop_shape loop_operation.Knit dir bed at carriers = KnitShape dir bed at carriers
loop_shape loop_operation.Tuck dir bed at carriers = TuckShape dir bed at carriers
loop_shape loop_operation.Miss dir bed at carriers = MissShape dir bed at carriers

-- its instruction
abbrev pub loop_instr : LoopOperation → Dir → Needle → List CarrierNo → Instr
loop_instr loop_operation.Knit dir n cs = instr.Knit dir n cs
loop_instr loop_operation.Tuck dir n cs = instr.Tuck dir n cs
loop_instr loop_operation.Miss dir n cs = instr.Miss dir n cs

-- `miss` forms no loop
abbrev pub loop_slider : LoopOperation → Bed → List (List ℕ) → Option Reason
loop_slider loop_operation.Knit bed carriers = slider_form bed carriers
loop_slider loop_operation.Tuck bed carriers = slider_form bed carriers
loop_slider loop_operation.Miss bed carriers = None

-- the word of an operation on one needle
abbrev pub needle_operation_word : NeedleOperation → List ℕ
needle_operation_word needle_operation.Drop = codes "drop"
needle_operation_word needle_operation.Amiss = codes "amiss"

-- its shape
abbrev pub needle_operation_shape : NeedleOperation → Bed → ℤ → Shape
needle_operation_shape needle_operation.Drop bed at = DropShape bed at
needle_operation_shape needle_operation.Amiss bed at = AmissShape bed at

-- its instruction
abbrev pub needle_operation_instr : NeedleOperation → Needle → Instr
needle_operation_instr needle_operation.Drop n = instr.Drop n
needle_operation_instr needle_operation.Amiss n = instr.Amiss n

-- the word is that of an operation that free tokens follow
abbrev pub IsFreeWord : FreeOperation → List ℕ → Type 0
IsFreeWord free_operation.Stitch word = word ≡ codes "stitch"
IsFreeWord free_operation.Pause word = word ≡ codes "pause"
IsFreeWord free_operation.Extension word = (name : List ℕ) × (word ≡ codes "x-" ++ name)

-- the word names the operation
abbrev pub IsWordOf : Operation → List ℕ → Type 0
IsWordOf (operation.Loop which) word = word ≡ loop_word which
IsWordOf operation.Xfer word = word ≡ codes "xfer"
IsWordOf operation.Split word = word ≡ codes "split"
IsWordOf (operation.Needle which) word = word ≡ needle_operation_word which
IsWordOf operation.Rack word = word ≡ codes "rack"
IsWordOf (operation.Carrier which) word = word ≡ carrier_word which
IsWordOf (operation.Free which) word = IsFreeWord which word
