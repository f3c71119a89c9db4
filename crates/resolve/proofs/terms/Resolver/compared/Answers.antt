use Rattle.std.proofs.Common.{◌≡◌, inl, inr, refl}
use Rattle.resolve.specs.Scopes.{signature}
use Rattle.resolve.specs.Faults.{class_of, side, Connects}
use Rattle.resolve.specs.declared.fault.Class.TheVariants.{Place, Set}
use Rattle.resolve.proofs.FaultsLaws.{one_tail, two_tail, two_passed, counted_tail, round_passed, unless_err}
use Rattle.resolve.proofs.terms.Resolver.compared.Goals as goal

pub returns-in-IsEmpty-clause-faults : goal.returns-in-IsEmpty-clause-faults
returns-in-IsEmpty-clause-faults c =
    let d1 : c.deref.result.now ≡ c.in-Unary.a.value = c.deref.ensures in
    unless_err c.emptied.result (signature c.args.scope.now) c.args.expr.now (Connects c.args.expr.now.kind) (one_tail c.emptied.result (signature c.args.scope.now) c.args.expr.now Set c.deref.result.now c.emptied.ensures.faults (rw (c.in-Unary.is, c.in-IsEmpty.is, d1) (inl refl)))

pub returns-in-Count-clause-faults : goal.returns-in-Count-clause-faults
returns-in-Count-clause-faults c =
    let at = c.in-Count in
    unless_err c.counted.result (signature c.args.scope.now) c.args.expr.now (Connects c.args.expr.now.kind) (counted_tail c.counted.result (signature c.args.scope.now) c.args.expr.now at.set at.modulus at.rest c.deref-in-Count.result.now at.is c.deref-in-Count.ensures c.counted.ensures.faults)

pub returns-in-In-clause-faults : goal.returns-in-In-clause-faults
returns-in-In-clause-faults c =
    let d1 : c.deref-in-In.result.now ≡ c.in-Binary.a.value = c.deref-in-In.ensures in
    let d2 : c.deref-in-In-2.result.now ≡ c.in-Binary.b.value = c.deref-in-In-2.ensures in
    unless_err c.belongs.result (signature c.args.scope.now) c.args.expr.now (Connects c.args.expr.now.kind) (two_tail c.belongs.result (signature c.args.scope.now) c.args.expr.now Place Set c.deref-in-In.result.now c.deref-in-In-2.result.now c.belongs.ensures.faults (rw (c.in-Binary.is, c.in-In.is, d1) (inl refl)) (rw (c.in-Binary.is, c.in-In.is, d2) (inr (inl refl))))

pub returns-in_err-formula-in-NotIn-clause-faults : goal.returns-in_err-formula-in-NotIn-clause-faults
returns-in_err-formula-in-NotIn-clause-faults c =
    let d1 : c.deref-in-NotIn.result.now ≡ c.in-Binary.a.value = c.deref-in-NotIn.ensures in
    let d2 : c.deref-in-NotIn-2.result.now ≡ c.in-Binary.b.value = c.deref-in-NotIn-2.ensures in
    unless_err c.from_residual.result (signature c.args.scope.now) c.args.expr.now (Connects c.args.expr.now.kind) (two_passed c.from_residual.result (signature c.args.scope.now) c.args.expr.now Place Set c.deref-in-NotIn.result.now c.deref-in-NotIn-2.result.now _ c.from_residual.ensures.1 c.in_err-formula-in-NotIn.ensures.faults (rw (c.in-Binary.is, c.in-NotIn.is, d1) (inl refl)) (rw (c.in-Binary.is, c.in-NotIn.is, d2) (inr (inl refl))))

pub returns-in-Sub-clause-faults : goal.returns-in-Sub-clause-faults
returns-in-Sub-clause-faults c =
    let d1 : c.deref-in-Sub.result.now ≡ c.in-Binary.a.value = c.deref-in-Sub.ensures in
    let d2 : c.deref-in-Sub-2.result.now ≡ c.in-Binary.b.value = c.deref-in-Sub-2.ensures in
    unless_err c.within.result (signature c.args.scope.now) c.args.expr.now (Connects c.args.expr.now.kind) (two_tail c.within.result (signature c.args.scope.now) c.args.expr.now Set Set c.deref-in-Sub.result.now c.deref-in-Sub-2.result.now c.within.ensures.faults (rw (c.in-Binary.is, c.in-Sub.is, d1) (inl refl)) (rw (c.in-Binary.is, c.in-Sub.is, d2) (inr (inl refl))))

pub returns-in-Equal-clause-faults : goal.returns-in-Equal-clause-faults
returns-in-Equal-clause-faults c =
    let d1 : c.deref-in-Equal.result.now ≡ c.in-Binary.a.value = c.deref-in-Equal.ensures in
    let d2 : c.deref-in-Equal-2.result.now ≡ c.in-Binary.b.value = c.deref-in-Equal-2.ensures in
    unless_err c.equal.result (signature c.args.scope.now) c.args.expr.now (Connects c.args.expr.now.kind) (two_tail c.equal.result (signature c.args.scope.now) c.args.expr.now (side (class_of (signature c.args.scope.now) c.deref-in-Equal.result.now.kind)) (side (class_of (signature c.args.scope.now) c.deref-in-Equal.result.now.kind)) c.deref-in-Equal.result.now c.deref-in-Equal-2.result.now c.equal.ensures.faults (rw (c.in-Binary.is, c.in-Equal.is, d1) (inl refl)) (rw (c.in-Binary.is, c.in-Equal.is, d1, d2) (inr (inl refl))))

pub returns-in_err-formula-in-Differs-clause-faults : goal.returns-in_err-formula-in-Differs-clause-faults
returns-in_err-formula-in-Differs-clause-faults c =
    let d1 : c.deref-in-Differs.result.now ≡ c.in-Binary.a.value = c.deref-in-Differs.ensures in
    let d2 : c.deref-in-Differs-2.result.now ≡ c.in-Binary.b.value = c.deref-in-Differs-2.ensures in
    unless_err c.from_residual-in_err-formula-in-Differs.result (signature c.args.scope.now) c.args.expr.now (Connects c.args.expr.now.kind) (two_passed c.from_residual-in_err-formula-in-Differs.result (signature c.args.scope.now) c.args.expr.now (side (class_of (signature c.args.scope.now) c.deref-in-Differs.result.now.kind)) (side (class_of (signature c.args.scope.now) c.deref-in-Differs.result.now.kind)) c.deref-in-Differs.result.now c.deref-in-Differs-2.result.now _ c.from_residual-in_err-formula-in-Differs.ensures.1 c.in_err-formula-in-Differs.ensures.faults (rw (c.in-Binary.is, c.in-Differs.is, d1) (inl refl)) (rw (c.in-Binary.is, c.in-Differs.is, d1, d2) (inr (inl refl))))

pub returns-in_ok-check_ends-in-Less-clause-faults : goal.returns-in_ok-check_ends-in-Less-clause-faults
returns-in_ok-check_ends-in-Less-clause-faults c =
    let d1 : c.deref-in-Less.result.now ≡ c.in-Binary.a.value = c.deref-in-Less.ensures in
    let d2 : c.deref-in-Less-2.result.now ≡ c.in-Binary.b.value = c.deref-in-Less-2.ensures in
    unless_err c.before-in-Less.result (signature c.args.scope.now) c.args.expr.now (Connects c.args.expr.now.kind) (two_tail c.before-in-Less.result (signature c.args.scope.now) c.args.expr.now Place Place c.deref-in-Less.result.now c.deref-in-Less-2.result.now c.before-in-Less.ensures.faults (rw (c.in-Binary.is, c.in-Less.is, d1) (inl refl)) (rw (c.in-Binary.is, c.in-Less.is, d2) (inr (inl refl))))

pub returns-in_ok-check_ends-in-Greater-clause-faults : goal.returns-in_ok-check_ends-in-Greater-clause-faults
returns-in_ok-check_ends-in-Greater-clause-faults c =
    let d1 : c.deref-in-Greater.result.now ≡ c.in-Binary.b.value = c.deref-in-Greater.ensures in
    let d2 : c.deref-in-Greater-2.result.now ≡ c.in-Binary.a.value = c.deref-in-Greater-2.ensures in
    unless_err c.before-in-Greater.result (signature c.args.scope.now) c.args.expr.now (Connects c.args.expr.now.kind) (two_tail c.before-in-Greater.result (signature c.args.scope.now) c.args.expr.now Place Place c.deref-in-Greater.result.now c.deref-in-Greater-2.result.now c.before-in-Greater.ensures.faults (rw (c.in-Binary.is, c.in-Greater.is, d1) (inr (inl refl))) (rw (c.in-Binary.is, c.in-Greater.is, d2) (inl refl)))

pub returns-in_err-formula-in-AtMost-clause-faults : goal.returns-in_err-formula-in-AtMost-clause-faults
returns-in_err-formula-in-AtMost-clause-faults c =
    let d1 : c.deref-in-AtMost.result.now ≡ c.in-Binary.b.value = c.deref-in-AtMost.ensures in
    let d2 : c.deref-in-AtMost-2.result.now ≡ c.in-Binary.a.value = c.deref-in-AtMost-2.ensures in
    unless_err c.from_residual-in_err-formula-in-AtMost.result (signature c.args.scope.now) c.args.expr.now (Connects c.args.expr.now.kind) (two_passed c.from_residual-in_err-formula-in-AtMost.result (signature c.args.scope.now) c.args.expr.now Place Place c.deref-in-AtMost.result.now c.deref-in-AtMost-2.result.now _ c.from_residual-in_err-formula-in-AtMost.ensures.1 c.in_err-formula-in-AtMost.ensures.faults (rw (c.in-Binary.is, c.in-AtMost.is, d1) (inr (inl refl))) (rw (c.in-Binary.is, c.in-AtMost.is, d2) (inl refl)))

pub returns-in_err-formula-in-AtLeast-clause-faults : goal.returns-in_err-formula-in-AtLeast-clause-faults
returns-in_err-formula-in-AtLeast-clause-faults c =
    let d1 : c.deref-in-AtLeast.result.now ≡ c.in-Binary.a.value = c.deref-in-AtLeast.ensures in
    let d2 : c.deref-in-AtLeast-2.result.now ≡ c.in-Binary.b.value = c.deref-in-AtLeast-2.ensures in
    unless_err c.from_residual-in_err-formula-in-AtLeast.result (signature c.args.scope.now) c.args.expr.now (Connects c.args.expr.now.kind) (two_passed c.from_residual-in_err-formula-in-AtLeast.result (signature c.args.scope.now) c.args.expr.now Place Place c.deref-in-AtLeast.result.now c.deref-in-AtLeast-2.result.now _ c.from_residual-in_err-formula-in-AtLeast.ensures.1 c.in_err-formula-in-AtLeast.ensures.faults (rw (c.in-Binary.is, c.in-AtLeast.is, d1) (inl refl)) (rw (c.in-Binary.is, c.in-AtLeast.is, d2) (inr (inl refl))))

pub returns-in_err-check_ends-in-Less-clause-faults : goal.returns-in_err-check_ends-in-Less-clause-faults
returns-in_err-check_ends-in-Less-clause-faults c =
    let result = c.from_residual-in_err-check_ends-in-Less.result in
    unless_err result (signature c.args.scope.now) c.args.expr.now (Connects c.args.expr.now.kind) (round_passed result (signature c.args.scope.now) c.args.expr.now _ c.from_residual-in_err-check_ends-in-Less.ensures.1 c.in_err-check_ends-in-Less.ensures.faults (rw (c.in-Binary.is, c.in-Less.is) tt))

pub returns-in_err-check_ends-in-Greater-clause-faults : goal.returns-in_err-check_ends-in-Greater-clause-faults
returns-in_err-check_ends-in-Greater-clause-faults c =
    let result = c.from_residual-in_err-check_ends-in-Greater.result in
    unless_err result (signature c.args.scope.now) c.args.expr.now (Connects c.args.expr.now.kind) (round_passed result (signature c.args.scope.now) c.args.expr.now _ c.from_residual-in_err-check_ends-in-Greater.ensures.1 c.in_err-check_ends-in-Greater.ensures.faults (rw (c.in-Binary.is, c.in-Greater.is) tt))

pub returns-in_err-check_ends-in-AtMost-clause-faults : goal.returns-in_err-check_ends-in-AtMost-clause-faults
returns-in_err-check_ends-in-AtMost-clause-faults c =
    let result = c.from_residual-in_err-check_ends-in-AtMost.result in
    unless_err result (signature c.args.scope.now) c.args.expr.now (Connects c.args.expr.now.kind) (round_passed result (signature c.args.scope.now) c.args.expr.now _ c.from_residual-in_err-check_ends-in-AtMost.ensures.1 c.in_err-check_ends-in-AtMost.ensures.faults (rw (c.in-Binary.is, c.in-AtMost.is) tt))

pub returns-in_err-check_ends-in-AtLeast-clause-faults : goal.returns-in_err-check_ends-in-AtLeast-clause-faults
returns-in_err-check_ends-in-AtLeast-clause-faults c =
    let result = c.from_residual-in_err-check_ends-in-AtLeast.result in
    unless_err result (signature c.args.scope.now) c.args.expr.now (Connects c.args.expr.now.kind) (round_passed result (signature c.args.scope.now) c.args.expr.now _ c.from_residual-in_err-check_ends-in-AtLeast.ensures.1 c.in_err-check_ends-in-AtLeast.ensures.faults (rw (c.in-Binary.is, c.in-AtLeast.is) tt))
