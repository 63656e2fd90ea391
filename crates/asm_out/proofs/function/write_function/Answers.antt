use Rattle.asm_out.proofs.PlaceOne.{function_one}
use Rattle.asm_out.proofs.WrittenLaws.{function_written, function_within}
use Rattle.asm_out.proofs.SpelledLaws.{chain_spelled}
use Rattle.asm_out.proofs.function.write_function.Goals as goal

pub returns-clause-one : goal.returns-clause-one
returns-clause-one c = λ forms number f size a b x y. function_one forms number f size a b x y

pub returns-clause-written : goal.returns-clause-written
returns-clause-written c = λ forms number f size piece comes. function_written forms number f size piece comes

pub returns-clause-within : goal.returns-clause-within
returns-clause-within c = λ forms number f size piece comes. function_within forms number f size piece comes

pub returns-clause-spelled : goal.returns-clause-spelled
returns-clause-spelled c = λ forms number f place insns text items small are. chain_spelled forms number f place insns text items small are
