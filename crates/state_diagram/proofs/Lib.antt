mod PushedLaws
