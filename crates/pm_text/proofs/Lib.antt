mod Scenarios
